-- Items in order, each once.
use Rattle.std.proofs.Common.{◌≡◌, sym, subst, List, IsPermutation, ◌↔◌}
use Rattle.std.specs.List.{Contains, dedup}
use Rattle.std.proofs.lemmas.List.Sorted.{Contains-permutation, IsPermutation-sym}
use Rattle.std.proofs.lemmas.List.Kept.{Contains-dedup, Contains-from_dedup}
use Rattle.std.proofs.Common.{nat_eq, ℕ}
use Rattle.ts_automata.proofs.NumberLemmas.{same_nat, nat_equiv}

pub same_members : (found items sorted kept : List ℕ) → items ≡ found → IsPermutation items sorted → kept ≡ dedup nat_eq sorted → (i : ℕ) → Contains kept i ↔ Contains found i
same_members found items sorted kept all moved is i = (
  (λ h. subst (λ (l : List ℕ). Contains l i) all
      (Contains-permutation sorted items i (IsPermutation-sym items sorted moved) (Contains-from_dedup nat_eq sorted i (subst (λ (l : List ℕ). Contains l i) is h)))),
  (λ h. subst (λ (l : List ℕ). Contains l i) (sym is)
      (Contains-dedup nat_equiv same_nat sorted i (Contains-permutation items sorted i moved (subst (λ (l : List ℕ). Contains l i) (sym all) h)))),
)
