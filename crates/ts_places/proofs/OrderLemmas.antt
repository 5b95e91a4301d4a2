-- The order by which the best tree is kept.
use Rattle.std.proofs.Common.{◌≡◌, ◌∙◌, sym, refl, subst, ℕ, inl, inr, List, [], ◌∷◌, Option, Some, None, arith}
use lib.IntN.{ℤ}
use lib.Signed.{◌<ℤ◌}
use Rattle.std.specs.Int.Signed.{<ℤ_irrefl}
use Rattle.spec_trees.specs.declared.tree.Tree.{Tree}
use Rattle.spec_trees.specs.Trees.{total_of, bare}
use Rattle.spec_trees.specs.Choice.{code_of, ComesBefore, Better}
use Rattle.spec_runs.specs.BareTrees.{KeepsAll}
use Rattle.ts_places.specs.Choosing.{KeepsBest}

before_chains : (xs ys zs : List ℕ) → ComesBefore xs ys → ComesBefore ys zs → ComesBefore xs zs
before_chains xs [] zs a b = absurd a
before_chains xs (y ∷ ys) [] a b = absurd b
before_chains [] (y ∷ ys) (z ∷ zs) a b = tt
before_chains (x ∷ xs) (y ∷ ys) (z ∷ zs) (inl a) (inl b) = inl (omega (arith, a, b))
before_chains (x ∷ xs) (y ∷ ys) (z ∷ zs) (inl a) (inr b) = inl (omega (arith, a, b.0))
before_chains (x ∷ xs) (y ∷ ys) (z ∷ zs) (inr a) (inl b) = inl (omega (arith, a.0, b))
before_chains (x ∷ xs) (y ∷ ys) (z ∷ zs) (inr a) (inr b) = inr (a.0 ∙ b.0, before_chains xs ys zs a.1 b.1)

before_strict : (xs : List ℕ) → ComesBefore xs xs → ⊥
before_strict [] a = a
before_strict (x ∷ xs) (inl a) = omega (arith, a)
before_strict (x ∷ xs) (inr a) = before_strict xs a.1

less_chains : (a b c : ℤ) → a <ℤ b → b <ℤ c → a <ℤ c
less_chains a b c p q = grind arith

better_strict : (t : Tree) → Better t t → ⊥
better_strict t (inl a) = <ℤ_irrefl a
better_strict t (inr a) = before_strict (code_of t) a.1

better_chains : (t u v : Tree) → Better t u → Better u v → Better t v
better_chains t u v (inl a) (inl b) = inl (less_chains (total_of v) (total_of u) (total_of t) b a)
better_chains t u v (inl a) (inr b) = inl (subst (λ (n : ℤ). n <ℤ total_of t) b.0 a)
better_chains t u v (inr a) (inl b) = inl (subst (λ (n : ℤ). total_of v <ℤ n) (sym a.0) b)
better_chains t u v (inr a) (inr b) = inr (a.0 ∙ b.0, before_chains (code_of t) (code_of u) (code_of v) a.1 b.1)

module _ (keeps : (t : Tree) → KeepsAll t) where
  bare_second : (t u : Tree) → Better t (bare u) → Better t u
  bare_second t u (inl a) = inl (subst (λ (n : ℤ). n <ℤ total_of t) (keeps u).total a)
  bare_second t u (inr a) = inr (a.0 ∙ (keeps u).total, subst (λ (l : List ℕ). ComesBefore (code_of t) l) (keeps u).code a.1)

  second_bare : (t u : Tree) → Better t u → Better t (bare u)
  second_bare t u (inl a) = inl (subst (λ (n : ℤ). n <ℤ total_of t) (sym (keeps u).total) a)
  second_bare t u (inr a) = inr (a.0 ∙ sym (keeps u).total, subst (λ (l : List ℕ). ComesBefore (code_of t) l) (sym (keeps u).code) a.1)

  strict_bare : (t : Tree) → Better (bare t) (bare t) → ⊥
  strict_bare t b = better_strict (bare t) b

  -- there was none
  pub first_kept : (old : Option Tree) (t : Tree) → old ≡ None → KeepsBest old (Some t) t
  first_kept old t none = record {
    mine = (t, refl, strict_bare t);
    others = λ u w. absurd (let e : None ≡ Some w.0 = sym none ∙ w.1 in cc);
    from = inl refl;
  }

  -- the new one is better
  pub better_kept : (old : Option Tree) (o t : Tree) → old ≡ Some o → Better t o → KeepsBest old (Some t) t
  better_kept old o t is better = record {
    mine = (t, refl, strict_bare t);
    others = λ u w. (t, refl, (λ b. w.2 (subst (λ (x : Tree). Better u (bare x)) (one w.0 (sym is ∙ w.1)) (second_bare u o (better_chains u t o (bare_second u t b) better)))));
    from = inl refl;
  }
    where
      one : (x : Tree) → Some o ≡ Some x → o ≡ x
      one x e = cc
