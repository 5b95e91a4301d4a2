-- Of two trees of one kind the better may take the place of both.
use Rattle.std.proofs.Common.{◌≡◌, sym, ap, subst, ℕ, ◌<◌, ◌⊎◌, inl, inr, ⊎_elim, List, [], ◌∷◌, arith}
use Rattle.std.proofs.lemmas.Bool.{cases_order}
use Rattle.std.specs.Int.Signed.{<ℤ_irrefl}
use lib.IntN.{ℤ, pos, negsuc}
use lib.Signed.{◌<ℤ◌}
use Rattle.spec_trees.specs.declared.tree.Tree.{Tree}
use Rattle.spec_trees.specs.Trees.{total_of, bare}
use Rattle.spec_trees.specs.Choice.{code_of, ComesBefore, Better}
use Rattle.spec_runs.specs.BareTrees.{KeepsAll}
use Rattle.spec_packing.proofs.RankLemmas.{unbared}
use Rattle.spec_graph.specs.Replacing.{AreAlike, Replaces, ReplacesBoth}
use Rattle.spec_graph.proofs.ReplaceLemmas.{replaces_itself}

before_or_not : (xs ys : List ℕ) → ComesBefore xs ys ⊎ (ComesBefore xs ys → ⊥)
before_or_not xs [] = inr (λ h. h)
before_or_not [] (y ∷ ys) = inl tt
before_or_not (x ∷ xs) (y ∷ ys) = by (cases_order x y) (before_or_not xs ys)
  where
    by : (x ≡ y) ⊎ ((x < y) ⊎ (y < x)) → ComesBefore xs ys ⊎ (ComesBefore xs ys → ⊥) → ComesBefore (x ∷ xs) (y ∷ ys) ⊎ (ComesBefore (x ∷ xs) (y ∷ ys) → ⊥)
    by (inl e) (inl b) = inl (inr (e, b))
    by (inl e) (inr b) = inr (λ h. ⊎_elim (λ (l : x < y). omega (arith, l, e)) (λ m. b m.1) h)
    by (inr (inl l)) b = inl (inl l)
    by (inr (inr l)) b = inr (λ h. ⊎_elim (λ (m : x < y). omega (arith, l, m)) (λ m. let e = m.0 in omega (arith, l, e)) h)

before_apart : (xs ys : List ℕ) → ComesBefore xs ys → ComesBefore ys xs → ⊥
before_apart xs [] a b = a
before_apart [] (y ∷ ys) a b = b
before_apart (x ∷ xs) (y ∷ ys) (inl a) (inl b) = omega (arith, a, b)
before_apart (x ∷ xs) (y ∷ ys) (inl a) (inr b) = omega (arith, a, b.0)
before_apart (x ∷ xs) (y ∷ ys) (inr a) (inl b) = omega (arith, a.0, b)
before_apart (x ∷ xs) (y ∷ ys) (inr a) (inr b) = before_apart xs ys a.1 b.1

int_order : (a b : ℤ) → (a <ℤ b) ⊎ ((a ≡ b) ⊎ (b <ℤ a))
int_order (pos a) (pos b) = ⊎_elim (λ e. inr (inl (ap pos e))) (λ h. ⊎_elim (λ (l : a < b). inl (grind arith)) (λ (m : b < a). inr (inr (grind arith))) h) (cases_order a b)
int_order (pos a) (negsuc b) = inr (inr (grind arith))
int_order (negsuc a) (pos b) = inl (grind arith)
int_order (negsuc a) (negsuc b) = ⊎_elim (λ e. inr (inl (ap negsuc e))) (λ h. ⊎_elim (λ (l : a < b). inr (inr (grind arith))) (λ (m : b < a). inl (grind arith)) h) (cases_order a b)

less_chains : (a b c : ℤ) → a <ℤ b → b <ℤ c → a <ℤ c
less_chains a b c p q = grind arith

better_or_not : (t u : Tree) → Better t u ⊎ (Better t u → ⊥)
better_or_not t u = by (int_order (total_of u) (total_of t)) (before_or_not (code_of t) (code_of u))
  where
    by : (total_of u <ℤ total_of t) ⊎ ((total_of u ≡ total_of t) ⊎ (total_of t <ℤ total_of u)) → ComesBefore (code_of t) (code_of u) ⊎ (ComesBefore (code_of t) (code_of u) → ⊥) → Better t u ⊎ (Better t u → ⊥)
    by (inl l) b = inl (inl l)
    by (inr (inl e)) (inl b) = inl (inr (sym e, b))
    by (inr (inl e)) (inr b) = inr (λ h. ⊎_elim (λ (l : total_of u <ℤ total_of t). <ℤ_irrefl (subst (λ (n : ℤ). n <ℤ total_of t) e l)) (λ m. b m.1) h)
    by (inr (inr l)) b = inr (λ h. ⊎_elim (λ (m : total_of u <ℤ total_of t). <ℤ_irrefl (less_chains (total_of t) (total_of u) (total_of t) l m)) (λ m. <ℤ_irrefl (subst (λ (n : ℤ). n <ℤ total_of u) m.0 l)) h)

better_apart : (t u : Tree) → Better t u → Better u t → ⊥
better_apart t u (inl a) (inl b) = <ℤ_irrefl (less_chains (total_of u) (total_of t) (total_of u) a b)
better_apart t u (inl a) (inr b) = <ℤ_irrefl (subst (λ (n : ℤ). n <ℤ total_of t) b.0 a)
better_apart t u (inr a) (inl b) = <ℤ_irrefl (subst (λ (n : ℤ). n <ℤ total_of u) a.0 b)
better_apart t u (inr a) (inr b) = before_apart (code_of t) (code_of u) a.1 b.1

takes_place : (t u : Tree) → AreAlike t u → (Better u t → ⊥) → Replaces t u
takes_place t u a none = record {
  symbol = a.symbol;
  extra = a.extra;
  pad = a.pad;
  size = a.size;
  no_better = none;
}

turned : (t u : Tree) → AreAlike t u → AreAlike u t
turned t u a = record { symbol = sym a.symbol; extra = sym a.extra; pad = sym a.pad; size = sym a.size }

pub better_both : ((t : Tree) → KeepsAll t) → (old tree new : Tree) → AreAlike (bare old) (bare tree) → (Better tree old → new ≡ tree) → ((Better tree old → ⊥) → new ≡ old) → ReplacesBoth old tree new
better_both keeps old tree new alike better no_better = by (better_or_not tree old)
  where
    by : Better tree old ⊎ (Better tree old → ⊥) → ReplacesBoth old tree new
    by (inl b) = let e : new ≡ tree = better b in record {
      which = inl e;
      first = subst (λ (t : Tree). Replaces (bare t) (bare old)) (sym e) (takes_place (bare tree) (bare old) (turned (bare old) (bare tree) alike) (λ h. better_apart tree old b (unbared tree old (keeps tree) (keeps old) h)));
      second = subst (λ (t : Tree). Replaces (bare t) (bare tree)) (sym e) (replaces_itself (bare tree));
    }
    by (inr n) = let e : new ≡ old = no_better n in record {
      which = inr e;
      first = subst (λ (t : Tree). Replaces (bare t) (bare old)) (sym e) (replaces_itself (bare old));
      second = subst (λ (t : Tree). Replaces (bare t) (bare tree)) (sym e) (takes_place (bare old) (bare tree) alike (λ h. n (unbared old tree (keeps old) (keeps tree) h)));
    }
