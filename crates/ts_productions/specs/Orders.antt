-- The inlined rules with their ranks, as the code has them. Serves private clauses and proofs
-- alone.
use Rattle.std.specs.Prelude.{◌≡◌, ℕ, Bool, true, false, List, [], ◌∷◌, map, slice_get, Some}
use Rattle.ts_core.specs.declared.rule.Grammar.{Grammar}
use Rattle.ts_rules.specs.FirstSights.{Not}
use Rattle.ts_rules.specs.Numbers.{IsInlined}
use Rattle.ts_rules.specs.Sights.{NamedRule}
use Rattle.ts_productions.specs.declared.order.Ranked.{Ranked}

-- those of a list that have the property, in order, and what stands beside them in another list
pub data PicksBoth {X Y : Type 0} (P : X → Type 0) : List X → List Y → List X → List Y
    → Type 0 where
  none_left : PicksBoth P [] [] [] []
  taken_both : (x : X) (y : Y) (xs vs : List X) (ys ws : List Y) → P x → PicksBoth P xs ys vs ws
      → PicksBoth P (x ∷ xs) (y ∷ ys) (x ∷ vs) (y ∷ ws)
  left_both : (x : X) (y : Y) (xs vs : List X) (ys ws : List Y) → Not (P x)
      → PicksBoth P xs ys vs ws
      → PicksBoth P (x ∷ xs) (y ∷ ys) vs ws

-- the rank of an inlined rule
abbrev pub rank_of : Ranked → ℕ
rank_of r = r.rank

-- the place of an inlined rule among those that are inlined
abbrev pub place_of : Ranked → ℕ
place_of r = r.place

-- a rule with its rank and place, where it is inlined
abbrev pub ranked_if : Bool → ℕ → ℕ → List Ranked
ranked_if true rank place = record { rank = rank; place = place } ∷ []
ranked_if false rank place = []

-- the inlined rules of a list have these ranks
abbrev pub AreRanksAmong : Grammar → List NamedRule → List ℕ → List Ranked → Type 0
AreRanksAmong g rules ranks found = (inlined : List NamedRule)
    × PicksBoth (λ (rule : NamedRule). IsInlined g rule.0) rules ranks inlined (map rank_of found)

-- each stands at its place
abbrev pub ArePlaced : List Ranked → Type 0
ArePlaced found = (k : ℕ) (r : Ranked) → slice_get found k ≡ Some r → r.place ≡ k
