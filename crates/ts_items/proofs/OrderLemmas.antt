-- Parts in order, each once.
use Rattle.std.proofs.Common.{◌≡◌, ◌∙◌, sym, ap, refl, subst, Bool, true, false, List, IsPermutation, arith, rules, ◌↔◌}
use Rattle.std.specs.Bool.{IsTrue, Decides}
use Rattle.std.specs.Cmp.{IsTotalOrder, IsEquivalence}
use Rattle.std.specs.Ordering.{is_eq, eq_by_cmp}
use Rattle.std.specs.BTreeSet.{BTreeSet, contains}
use Rattle.std.specs.List.{Contains, dedup}
use Rattle.std.specs.List.Sorted.{IsStrictlySortedBy}
use Rattle.std.proofs.lemmas.Bool.Decides.{nat_tests}
use Rattle.std.proofs.lemmas.List.Sorted.{Contains-permutation, IsPermutation-sym}
use Rattle.std.proofs.lemmas.List.Kept.{Contains-dedup, Contains-from_dedup}
use Rattle.std.proofs.lemmas.Map.Views.{btree_set_contains_iff}
use Rattle.std.proofs.lemmas.Map.Lookups.{btree_set_from_contains, CmpEqualImpliesEq}
use Rattle.ts_items.specs.declared.part.Part.{Part}
use Rattle.ts_items.specs.contracts.part.PartPartialEq.TheImpl as derived
use Rattle.ts_items.specs.contracts.part.PartOrd.TheImpl.Laws as laws
use Rattle.ts_items.specs.contracts.part.PartEq.TheImpl.Laws as equal
use Rattle.ts_items.specs.Numbers.{part_cmp, IsOrdered}

abbrev pub part_eq : Part → Part → Bool
part_eq = (derived.eq-value).it

pub same_part : (x y : Part) → part_eq x y ≡ true → x ≡ y
same_part x y h = grind (arith, nat_tests)

itself : (x : Part) → part_eq x x ≡ true
itself x = grind (arith, nat_tests)

pub part_decides : (x y : Part) → Decides (part_eq x y) (x ≡ y)
part_decides x y = (same_part x y, (λ e. subst (λ (z : Part). part_eq x z ≡ true) e (itself x)))

pub part_total : IsTotalOrder part_cmp
part_total = laws.total-law

pub part_ties : (x y : Part) → part_eq x y ≡ eq_by_cmp part_cmp x y
part_ties x y = search rules

pub part_equiv : IsEquivalence part_eq
part_equiv = equal.laws-law

pub ordered : (parts items sorted kept : List Part) → items ≡ parts → IsPermutation items sorted → kept ≡ dedup part_eq sorted → IsStrictlySortedBy part_cmp kept → IsOrdered parts kept
ordered parts items sorted kept all moved is order = record {
  members = λ i. (
    (λ h. subst (λ (l : List Part). Contains l i) all
        (Contains-permutation sorted items i (IsPermutation-sym items sorted moved) (Contains-from_dedup part_eq sorted i (subst (λ (l : List Part). Contains l i) is h)))),
    (λ h. subst (λ (l : List Part). Contains l i) (sym is)
        (Contains-dedup part_equiv same_part sorted i (Contains-permutation items sorted i moved (subst (λ (l : List Part). Contains l i) (sym all) h)))),
  );
  order = order;
}

exact : CmpEqualImpliesEq part_cmp
exact = λ x y e. same_part x y (part_ties x y ∙ ap is_eq e)

same_bool : (a b : Bool) → IsTrue a ↔ IsTrue b → a ≡ b
same_bool true true h = refl
same_bool false false h = refl
same_bool true false h = sym (h.0 refl)
same_bool false true h = h.1 refl

-- two lists in order with the same parts are one list
pub same_list : (s t : List Part) → IsStrictlySortedBy part_cmp s → IsStrictlySortedBy part_cmp t → ((p : Part) → Contains s p ↔ Contains t p) → s ≡ t
same_list s t p q same =
    btree_set_from_contains part_total (set s) (set t) p q (λ k. same_bool (contains part_cmp (set s) k) (contains part_cmp (set t) k)
    (let a = btree_set_contains_iff part_total exact (set s) k in let b = btree_set_contains_iff part_total exact (set t) k in let m = same k in
    ((λ h. b.1 (m.0 (a.0 h))), (λ h. a.1 (m.1 (b.0 h))))))
    exact
  where
    set : List Part → BTreeSet Part
    set xs = record { keys = xs }
