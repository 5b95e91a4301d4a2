-- Lists that are sorted, and then each element once.
use Rattle.std.proofs.Common.{◌≡◌, sym, subst, List, IsPermutation, ◌↔◌, Bool, true, rules}
use Rattle.std.specs.List.{Contains, dedup}
use Rattle.std.specs.Cmp.{IsEquivalence, IsTotalOrder}
use Rattle.std.specs.Ordering.{eq_by_cmp}
use Rattle.std.proofs.lemmas.List.Sorted.{Contains-permutation, IsPermutation-sym}
use Rattle.std.proofs.lemmas.List.Kept.{Contains-dedup, Contains-from_dedup}
use Rattle.spec_matches.specs.declared.found.Capture.{Capture}
use Rattle.spec_matches.specs.contracts.found.CaptureEq.TheImpl.Laws as equal
use Rattle.spec_matches.specs.contracts.found.CaptureOrd.TheImpl.Laws as laws
use Rattle.spec_matches.specs.Matches.{capture_cmp, capture_eq}

module _ {X : Type 0} (eq : X → X → Bool) (same : (x y : X) → eq x y ≡ true → x ≡ y) where
  pub same_members : IsEquivalence eq → (found items sorted kept : List X) → items ≡ found → IsPermutation items sorted → kept ≡ dedup eq sorted → (i : X) → Contains kept i ↔ Contains found i
  same_members equiv found items sorted kept all moved is i = (
    (λ h. subst (λ (l : List X). Contains l i) all
        (Contains-permutation sorted items i (IsPermutation-sym items sorted moved) (Contains-from_dedup eq sorted i (subst (λ (l : List X). Contains l i) is h)))),
    (λ h. subst (λ (l : List X). Contains l i) (sym is)
        (Contains-dedup equiv same sorted i (Contains-permutation items sorted i moved (subst (λ (l : List X). Contains l i) (sym all) h)))),
  )

pub capture_equiv : IsEquivalence capture_eq
capture_equiv = equal.laws-law

pub capture_total : IsTotalOrder capture_cmp
capture_total = laws.total-law

pub capture_ties : (x y : Capture) → capture_eq x y ≡ eq_by_cmp capture_cmp x y
capture_ties x y = search rules
