-- Two lists in order with the same members are one list.
use Rattle.std.proofs.Common.{◌≡◌, ◌∙◌, sym, ap, refl, List, ◌↔◌, Bool, true, false, Ordering}
use Rattle.std.specs.List.{Contains}
use Rattle.std.specs.List.Sorted.{IsStrictlySortedBy}
use Rattle.std.specs.Bool.{IsTrue}
use Rattle.std.specs.Cmp.{IsTotalOrder}
use Rattle.std.specs.Ordering.{is_eq, eq_by_cmp}
use Rattle.std.specs.BTreeSet.{BTreeSet, contains}
use Rattle.std.proofs.lemmas.Map.Views.{btree_set_contains_iff}
use Rattle.std.proofs.lemmas.Map.Lookups.{btree_set_from_contains, CmpEqualImpliesEq}

same_bool : (a b : Bool) → IsTrue a ↔ IsTrue b → a ≡ b
same_bool true true h = refl
same_bool false false h = refl
same_bool true false h = sym (h.0 refl)
same_bool false true h = h.1 refl

module _ {X : Type 0} (eq : X → X → Bool) (same : (x y : X) → eq x y ≡ true → x ≡ y) where
  pub same_list : {R : X → X → Ordering} → IsTotalOrder R → ((x y : X) → eq x y ≡ eq_by_cmp R x y) → (s t : List X) → IsStrictlySortedBy R s → IsStrictlySortedBy R t → ((x : X) → Contains s x ↔ Contains t x) → s ≡ t
  same_list {R} total ties s t p q members =
      btree_set_from_contains total (set s) (set t) p q (λ k. same_bool (contains R (set s) k) (contains R (set t) k)
      (let a = btree_set_contains_iff total exact (set s) k in let b = btree_set_contains_iff total exact (set t) k in let m = members k in
      ((λ h. b.1 (m.0 (a.0 h))), (λ h. a.1 (m.1 (b.0 h))))))
      exact
    where
      exact : CmpEqualImpliesEq R
      exact = λ x y e. same x y (ties x y ∙ ap is_eq e)

      set : List X → BTreeSet X
      set xs = record { keys = xs }
