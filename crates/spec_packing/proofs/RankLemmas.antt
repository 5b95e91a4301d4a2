-- Which of two trees is no worse, by their totals and codes, alone and among others.
use Rattle.std.proofs.Common.{◌≡◌, ◌∙◌, sym, ap, refl, subst, ℕ, ◌<◌, ◌⊎◌, inl, inr, ⊎_elim, List, ◌++◌, arith}
use Rattle.std.proofs.lemmas.Bool.{cases_order}
use Rattle.std.proofs.lemmas.Int.{ints}
use Rattle.std.specs.Int.Signed.{<ℤ_irrefl}
use lib.IntN.{ℤ, pos, negsuc, ◌+ℤ◌}
use lib.Signed.{◌<ℤ◌}
use Rattle.spec_trees.specs.declared.tree.Tree.{Tree}
use Rattle.spec_trees.specs.Trees.{total_of, bare}
use Rattle.spec_trees.specs.Choice.{code_of, ComesBefore, Better}
use Rattle.spec_runs.specs.BareTrees.{KeepsAll}
use Rattle.spec_packing.specs.Serving.{ServesFor}
use Rattle.spec_packing.proofs.CodeLemmas.{before_strict, before_between, Leads, leads_join, leads_not, leads_sorted, Sorted}

-- ---- whole numbers

int_cases : (a b : ℤ) → (a <ℤ b) ⊎ ((a ≡ b) ⊎ (b <ℤ a))
int_cases (pos a) (pos b) = ⊎_elim (λ e. inr (inl (ap pos e))) (λ h. ⊎_elim (λ (l : a < b). inl (grind arith)) (λ (m : b < a). inr (inr (grind arith))) h) (cases_order a b)
int_cases (pos a) (negsuc b) = inr (inr (grind arith))
int_cases (negsuc a) (pos b) = inl (grind arith)
int_cases (negsuc a) (negsuc b) = ⊎_elim (λ e. inr (inl (ap negsuc e))) (λ h. ⊎_elim (λ (l : a < b). inr (inr (grind arith))) (λ (m : b < a). inl (grind arith)) h) (cases_order a b)

less_chains : (a b c : ℤ) → a <ℤ b → b <ℤ c → a <ℤ c
less_chains a b c p q = grind arith

less_both : (a b c d : ℤ) → b <ℤ a → d <ℤ c → (b +ℤ d) <ℤ (a +ℤ c)
less_both a b c d p q = grind (arith, ints)

less_first : (a b c d : ℤ) → b <ℤ a → c ≡ d → (b +ℤ d) <ℤ (a +ℤ c)
less_first a b c d p q = grind (arith, ints)

less_second : (a b c d : ℤ) → a ≡ b → d <ℤ c → (b +ℤ d) <ℤ (a +ℤ c)
less_second a b c d p q = grind (arith, ints)

same_both : (a b c d : ℤ) → a ≡ b → c ≡ d → a +ℤ c ≡ b +ℤ d
same_both a b c d p q = cc

-- ---- trees

pub better_strict : (t : Tree) → Better t t → ⊥
better_strict t (inl a) = <ℤ_irrefl a
better_strict t (inr a) = before_strict (code_of t) a.1

-- what is better than a tree is better than any other, or that one is better than the tree
better_between : (v u t : Tree) → Better v t → Better v u ⊎ Better u t
better_between v u t h = by h (int_cases (total_of u) (total_of v)) (int_cases (total_of t) (total_of u))
  where
    by : Better v t → (total_of u <ℤ total_of v) ⊎ ((total_of u ≡ total_of v) ⊎ (total_of v <ℤ total_of u)) → (total_of t <ℤ total_of u) ⊎ ((total_of t ≡ total_of u) ⊎ (total_of u <ℤ total_of t)) → Better v u ⊎ Better u t
    by k (inl a) b = inl (inl a)
    by k a (inl b) = inr (inl b)
    by (inl k) (inr (inl a)) (inr (inl b)) = absurd (<ℤ_irrefl (subst (λ (n : ℤ). n <ℤ total_of v) (b ∙ a) k))
    by (inr k) (inr (inl a)) (inr (inl b)) = ⊎_elim (λ x. inl (inr (sym a, x))) (λ y. inr (inr (sym b, y))) (before_between (code_of v) (code_of u) (code_of t) k.1)
    by (inl k) (inr (inl a)) (inr (inr b)) = absurd (<ℤ_irrefl (less_chains (total_of v) (total_of t) (total_of v) (subst (λ (n : ℤ). n <ℤ total_of t) a b) k))
    by (inr k) (inr (inl a)) (inr (inr b)) = absurd (<ℤ_irrefl (subst (λ (n : ℤ). total_of u <ℤ n) (sym k.0 ∙ sym a) b))
    by (inl k) (inr (inr a)) (inr (inl b)) = absurd (<ℤ_irrefl (less_chains (total_of t) (total_of v) (total_of t) k (subst (λ (n : ℤ). total_of v <ℤ n) (sym b) a)))
    by (inr k) (inr (inr a)) (inr (inl b)) = absurd (<ℤ_irrefl (subst (λ (n : ℤ). n <ℤ total_of u) (k.0 ∙ b) a))
    by (inl k) (inr (inr a)) (inr (inr b)) = absurd (<ℤ_irrefl (less_chains (total_of t) (total_of v) (total_of t) k (less_chains (total_of v) (total_of u) (total_of t) a b)))
    by (inr k) (inr (inr a)) (inr (inr b)) = absurd (<ℤ_irrefl (subst (λ (n : ℤ). n <ℤ total_of t) k.0 (less_chains (total_of v) (total_of u) (total_of t) a b)))

pub no_better_chains : (t u v : Tree) → (Better u t → ⊥) → (Better v u → ⊥) → Better v t → ⊥
no_better_chains t u v a b h = ⊎_elim b a (better_between v u t h)

pub serves_itself : (t : Tree) → ServesFor t t
serves_itself t = record {
  symbol = refl;
  extra = refl;
  pad = refl;
  size = refl;
  depth = omega arith;
  no_better = better_strict t;
}

pub serves_chains : (t u v : Tree) → ServesFor t u → ServesFor u v → ServesFor t v
serves_chains t u v a b = record {
  symbol = a.symbol ∙ b.symbol;
  extra = a.extra ∙ b.extra;
  pad = a.pad ∙ b.pad;
  size = a.size ∙ b.size;
  depth = omega (arith, a.depth, b.depth);
  no_better = no_better_chains t u v a.no_better b.no_better;
}

pub unbared : (t u : Tree) → KeepsAll t → KeepsAll u → Better (bare u) (bare t) → Better u t
unbared t u k l (inl a) = inl (subst (λ (n : ℤ). n <ℤ total_of u) k.total (subst (λ (n : ℤ). total_of (bare t) <ℤ n) l.total a))
unbared t u k l (inr a) = inr (
  sym l.total ∙ a.0 ∙ k.total,
  subst (λ (xs : List ℕ). ComesBefore xs (code_of t)) l.code (subst (λ (xs : List ℕ). ComesBefore (code_of (bare u)) xs) k.code a.1),
)

pub serves_bare : (t u : Tree) → KeepsAll t → KeepsAll u → ServesFor t u → ServesFor (bare t) (bare u)
serves_bare t u k l s = record {
  symbol = k.symbol ∙ s.symbol ∙ sym l.symbol;
  extra = k.extra ∙ s.extra ∙ sym l.extra;
  pad = k.pad ∙ s.pad ∙ sym l.pad;
  size = k.size ∙ s.size ∙ sym l.size;
  depth = omega (arith, k.depth, l.depth, s.depth);
  no_better = λ b. s.no_better (unbared t u k l b);
}

-- ---- totals with codes

-- the first total is greater, or they are one and the first code leads
abbrev pub Ranks : ℤ → List ℕ → ℤ → List ℕ → Type 0
Ranks a xs b ys = (b <ℤ a) ⊎ ((a ≡ b) × Leads xs ys)

pub ranks_tree : (t u : Tree) → Sorted (code_of t) (code_of u) → (Better u t → ⊥) → Ranks (total_of t) (code_of t) (total_of u) (code_of u)
ranks_tree t u sorted none = by (int_cases (total_of u) (total_of t))
  where
    by : (total_of u <ℤ total_of t) ⊎ ((total_of u ≡ total_of t) ⊎ (total_of t <ℤ total_of u)) → Ranks (total_of t) (code_of t) (total_of u) (code_of u)
    by (inl less) = inl less
    by (inr (inl e)) = inr (sym e, leads_sorted (code_of t) (code_of u) sorted (λ c. none (inr (e, c))))
    by (inr (inr more)) = absurd (none (inl more))

pub ranks_not : (t u : Tree) (a b : ℤ) (xs ys : List ℕ) → total_of t ≡ a → total_of u ≡ b → code_of t ≡ xs → code_of u ≡ ys → Ranks a xs b ys → Better u t → ⊥
ranks_not t u a b xs ys ta ub tx uy r better = by r better
  where
    codes : ComesBefore (code_of u) (code_of t) → ComesBefore ys xs
    codes c = subst (λ (l : List ℕ). ComesBefore l xs) uy (subst (λ (l : List ℕ). ComesBefore (code_of u) l) tx c)

    totals : total_of t <ℤ total_of u → a <ℤ b
    totals c = subst (λ (n : ℤ). n <ℤ b) ta (subst (λ (n : ℤ). total_of t <ℤ n) ub c)

    by : Ranks a xs b ys → Better u t → ⊥
    by (inl less) (inl c) = <ℤ_irrefl (less_chains a b a (totals c) less)
    by (inl less) (inr c) = <ℤ_irrefl (subst (λ (n : ℤ). n <ℤ a) (sym ub ∙ c.0 ∙ ta) less)
    by (inr h) (inl c) = <ℤ_irrefl (subst (λ (n : ℤ). n <ℤ b) h.0 (totals c))
    by (inr h) (inr c) = leads_not xs ys h.1 (codes c.1)

pub ranks_join : (a b c d : ℤ) (xs ys vs ws : List ℕ) → Ranks a xs b ys → Ranks c vs d ws → Ranks (a +ℤ c) (xs ++ vs) (b +ℤ d) (ys ++ ws)
ranks_join a b c d xs ys vs ws (inl p) (inl q) = inl (less_both a b c d p q)
ranks_join a b c d xs ys vs ws (inl p) (inr q) = inl (less_first a b c d p q.0)
ranks_join a b c d xs ys vs ws (inr p) (inl q) = inl (less_second a b c d p.0 q)
ranks_join a b c d xs ys vs ws (inr p) (inr q) = inr (same_both a b c d p.0 q.0, leads_join xs ys vs ws p.1 q.1)

pub ranks_value : (v a b : ℤ) (xs ys : List ℕ) → Ranks a xs b ys → Ranks (v +ℤ a) xs (v +ℤ b) ys
ranks_value v a b xs ys (inl p) = inl (less_second v v a b refl p)
ranks_value v a b xs ys (inr p) = inr (ap (λ (n : ℤ). v +ℤ n) p.0, p.1)

pub ranks_by : (a b : ℤ) (xs ys vs ws : List ℕ) → (Leads xs ys → Leads vs ws) → Ranks a xs b ys → Ranks a vs b ws
ranks_by a b xs ys vs ws f (inl p) = inl p
ranks_by a b xs ys vs ws f (inr p) = inr (p.0, f p.1)
