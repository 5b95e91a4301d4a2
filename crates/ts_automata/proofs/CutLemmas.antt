-- The characters of a class lead wherever its first one leads.
use Rattle.std.proofs.Common.{◌≡◌, ◌∙◌, ap, ℕ, zero, suc, ◌+◌, ◌-◌, ◌^◌, ◌≤◌, ◌<◌, ◌⊎◌, inl, inr, ⊎_elim, List, get_or, slice_get, Some, arith}
use Rattle.std.specs.List.{Contains}
use Rattle.std.proofs.lemmas.Option.{slice_get_within, slice_get-get_or, get_or_from_slice_get}
use Rattle.std.proofs.lemmas.Map.Keys.{below_from_sorted}
use Rattle.ts_automata.specs.declared.node.Node.{Node}
use Rattle.ts_automata.specs.declared.node.Node.TheVariants.{Take}
use Rattle.spec_lexing.specs.Words.{IsInRanges}
use Rattle.ts_automata.specs.After.{Alike}
use Rattle.ts_automata.specs.Classes.{IsClassOf, IsCut}

cases_lt : (m n : ℕ) → (m < n) ⊎ (n ≤ m)
cases_lt zero zero = inr (omega arith)
cases_lt zero (suc n) = inl (omega arith)
cases_lt (suc m) zero = inr (omega arith)
cases_lt (suc m) (suc n) = ⊎_elim (λ h. inl (omega arith)) (λ h. inr (omega arith)) (cases_lt m n)

module _ (T : List Node) (bounds : List ℕ) (cut : IsCut T bounds) where
  pub zero_first : slice_get bounds 0 ≡ Some 0
  zero_first =
      let k = cut.zero_in.0 in
      let lt = cut.zero_in.1 in
      let at = cut.zero_in.2 in
      let le : get_or bounds 0 0 ≤ 0 = ⊎_elim (λ h. absurd (let w = below_from_sorted bounds 0 k 0 cut.sorted h lt in omega arith)) (λ h. let e : k ≡ 0 = omega arith in let f = ap (λ (n : ℕ). get_or bounds n 0) e in omega arith) (cases_lt 0 k) in
      let e : get_or bounds 0 0 ≡ 0 = omega arith in
      slice_get-get_or bounds 0 0 (omega arith) ∙ ap Some e

  module _ (c k : ℕ) (fits : c < 2 ^ 32) (class : IsClassOf bounds c k) where
    -- a bound that is not above the character is not above its class's first one
    bound_le : (b : ℕ) → Contains bounds b → b ≤ c → b ≤ class.bound
    bound_le b (j, lt, at) le = ⊎_elim (λ h. earlier h) (λ h. later h) (cases_lt k j)
      where
        here : get_or bounds k b ≡ class.bound
        here = get_or_from_slice_get bounds k class.bound b class.at

        earlier : k < j → b ≤ class.bound
        earlier h =
            let e : get_or bounds (k + 1) b ≤ b = ⊎_elim (λ less. let w = below_from_sorted bounds (k + 1) j b cut.sorted less lt in omega arith) (λ same. let f : j ≡ k + 1 = omega arith in let g = ap (λ (n : ℕ). get_or bounds n b) f in omega arith) (cases_lt (k + 1) j) in
            let next = class.high (get_or bounds (k + 1) b) (slice_get-get_or bounds (k + 1) b (omega arith)) in
            absurd (omega arith)

        later : j ≤ k → b ≤ class.bound
        later h = ⊎_elim (λ less. let w = below_from_sorted bounds j k b cut.sorted less (slice_get_within bounds k class.bound class.at) in let e = here in omega arith)
            (λ same. let f : j ≡ k = omega arith in let g = ap (λ (n : ℕ). get_or bounds n b) f in let e = here in omega arith) (cases_lt j k)

    to_bound : (s a : ℕ) (ranges : List (ℕ × ℕ)) → slice_get T s ≡ Some (Take ranges a) → IsInRanges ranges c → IsInRanges ranges class.bound
    to_bound s a ranges at (n, range, lt, is, (low, high)) =
        (n, range, lt, is, (bound_le range.0 (cut.low s a ranges range at (n, lt, is)) low, (let e = class.low in omega arith)))

    from_bound : (s a : ℕ) (ranges : List (ℕ × ℕ)) → slice_get T s ≡ Some (Take ranges a) → IsInRanges ranges class.bound → IsInRanges ranges c
    from_bound s a ranges at (n, range, lt, is, (low, high)) = (
      n,
      range,
      lt,
      is,
      (
        (let e = class.low in omega arith),
        ⊎_elim (λ past. ⊎_elim
            (λ small. absurd (let w = bound_le (range.1 + 1) (cut.high s a ranges range at (n, lt, is) small) (omega arith) in omega arith))
            (λ large. omega arith) (cases_lt range.1 (2 ^ 32 - 1)))
            (λ le. le) (cases_lt range.1 c),
      ),
    )

    pub cut_alike : Alike T c class.bound
    cut_alike s a = (
      (λ t. record { ranges = t.ranges; at = t.at; member = to_bound s a t.ranges t.at t.member }),
      (λ t. record { ranges = t.ranges; at = t.at; member = from_bound s a t.ranges t.at t.member }),
    )
