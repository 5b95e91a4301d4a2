-- A text has one outcome.
use Rattle.std.proofs.Common.{◌≡◌, sym, ap, le_antisymm, refl, ℕ, ◌<◌, inl, inr, ℤ, ◌<ℤ◌, List, [], ◌∷◌, arith}
use Rattle.ts_base.specs.Bytes.{Bytes}
use Rattle.ts_core.specs.declared.flat.FlatGrammar.{FlatGrammar}
use Rattle.spec_trees.specs.declared.tree.Tree.{Tree}
use Rattle.spec_trees.specs.Trees.{total_of, bare}
use Rattle.std.proofs.lemmas.Int.{ints}
use Rattle.spec_trees.specs.Choice.{code_of, ComesBefore, Better}
use Rattle.spec_runs.specs.Outcomes.{FreshOutcome, deep_outcome, tree_outcome, stuck_outcome, Fresh, AreOneOutcome}

same_number : (x y : ℕ) → (x < y → ⊥) → (y < x → ⊥) → x ≡ y
same_number x y a b = grind arith

-- two lists of numbers of which neither comes before the other are one
pub neither_before : (xs ys : List ℕ) → (ComesBefore xs ys → ⊥) → (ComesBefore ys xs → ⊥) → xs ≡ ys
neither_before [] [] a b = refl
neither_before [] (y ∷ ys) a b = absurd (a tt)
neither_before (x ∷ xs) [] a b = absurd (b tt)
neither_before (x ∷ xs) (y ∷ ys) a b =
    let e : x ≡ y = same_number x y (λ h. a (inl h)) (λ h. b (inl h)) in
    let r = neither_before xs ys (λ h. a (inr (e, h))) (λ h. b (inr (sym e, h))) in cc

-- two trees of which neither is better have one total and one code
pub neither_better : (t u : Tree) → (Better t u → ⊥) → (Better u t → ⊥) → (total_of t ≡ total_of u) × (code_of t ≡ code_of u)
neither_better t u a b =
    let e : total_of t ≡ total_of u = same_total (total_of t) (total_of u) (λ h. b (inl h)) (λ h. a (inl h)) in
    (e, neither_before (code_of t) (code_of u) (λ h. a (inr (e, h))) (λ h. b (inr (sym e, h))))
  where
    same_total : (x y : ℤ) → (x <ℤ y → ⊥) → (y <ℤ x → ⊥) → x ≡ y
    same_total x y p q = grind (arith, ints)

pub one_outcome : (g : FlatGrammar) (text : Bytes) (o p : FreshOutcome) → Fresh g text o → Fresh g text p → AreOneOutcome o p
one_outcome g text deep_outcome deep_outcome x y = refl
one_outcome g text deep_outcome (tree_outcome u) x y = absurd (y.shallow x)
one_outcome g text deep_outcome (stuck_outcome q) x y = absurd (y.shallow x)
one_outcome g text (tree_outcome t) deep_outcome x y = absurd (x.shallow y)
one_outcome g text (tree_outcome t) (tree_outcome u) x y = neither_better (bare t) (bare u) (y.best (bare t) x.accepted) (x.best (bare u) y.accepted)
one_outcome g text (tree_outcome t) (stuck_outcome q) x y = absurd (y.none (bare t) x.accepted)
one_outcome g text (stuck_outcome q) deep_outcome x y = absurd (x.shallow y)
one_outcome g text (stuck_outcome q) (tree_outcome u) x y = absurd (x.none (bare u) y.accepted)
one_outcome g text (stuck_outcome q) (stuck_outcome r) x y = ap stuck_outcome (le_antisymm (x.greatest r y.stops) (y.greatest q x.stops))
