-- The latest end of ways, found without the ways: heads on them, and how many trees they still
-- want. For private clauses and proofs.
use Rattle.std.specs.Prelude.{◌≡◌, ℕ, ◌+◌, ◌^◌, ◌<◌, ◌⊎◌, suc, List, [], ◌∷◌, ◌++◌, length, Option, Some, None}
use Rattle.std.specs.List.{Contains}
use Rattle.spec_graph.specs.declared.graph.Head.{Head}
use Rattle.spec_graph.specs.declared.graph.Link.{Link}
use Rattle.ts_graph.specs.declared.latest.Spot.{Spot}
use Rattle.ts_graph.specs.Down.{place_at}
use Rattle.ts_graph.specs.Ways.{EndsBy}
use Rattle.ts_graph.specs.Parts.{below_at, wanting_past}

-- a head on a way that wants so many trees
abbrev pub spot_of : ℕ → ℕ → Spot
spot_of head wanting = record { head = head; wanting = wanting }

-- the spot behind a link, where so many trees were wanting before it
abbrev pub spot_past : List Link → ℕ → ℕ → Spot
spot_past links wanting k = spot_of (below_at links k) (wanting_past links wanting k)

-- one more than a place, and 0 where there is none
abbrev pub past : Option ℕ → ℕ
past None = 0
past (Some place) = suc place

-- The best end so far and the ends of ways from these spots are ends of ways from the head, and
-- each other end is no later than the best.
pub record Finds (heads : List Head) (links : List Link) (h count most : ℕ) (spots : List Spot)
    (best : Option ℕ) : Type 0 where
  pub each : (s : Spot) → Contains spots s
      → (p : ℕ) → EndsBy heads links s.head s.wanting most p → EndsBy heads links h count most p
  pub own : (p : ℕ) → best ≡ Some p → EndsBy heads links h count most p
  pub all : (p : ℕ) → EndsBy heads links h count most p
      → (p < past best)
      ⊎ ((s : Spot) × Contains spots s × EndsBy heads links s.head s.wanting most p)

-- one spot was taken into account, whatever spots come behind it
abbrev pub Meets : List Head → List Link → ℕ → List Spot → Spot → Option ℕ → List Spot
    → Option ℕ → Type 0
Meets heads links most old s best new found = (h count : ℕ) (more : List Spot)
    → Finds heads links h count most (old ++ s ∷ more) best
    → Finds heads links h count most (new ++ more) found

-- the last spot was left for what lies behind it
abbrev pub Leaves : List Head → List Link → ℕ → List Spot → Spot → Option ℕ → List Spot
    → Option ℕ → Type 0
Leaves heads links most old s best new found = (h count : ℕ)
    → Finds heads links h count most (old ++ s ∷ []) best
    → Finds heads links h count most new found

-- a spot was put at the end, where it wants more, or nothing was
abbrev pub IsMet : List Spot → Spot → List Spot → Type 0
IsMet old s new = (new ≡ old) ⊎ ((new ≡ old ++ s ∷ []) × (0 < s.wanting))

-- the head is there, and wants more
abbrev pub CanGoDown : List Head → Spot → Type 0
CanGoDown heads s = (s.head < length heads) × (0 < s.wanting)

-- more than all that can be met on ways from these spots
abbrev pub weight : List Head → List Link → List Spot → ℕ
weight heads links [] = 0
weight heads links (s ∷ spots) =
    suc (length links) ^ place_at heads s.head + weight heads links spots

-- what came in the place of a spot can go on down, and weighs less
pub record GoesDown (heads : List Head) (links : List Link) (old : List Spot) (s : Spot)
    (new : List Spot) : Type 0 where
  pub can : (x : Spot) → Contains new x → Contains old x ⊎ CanGoDown heads x
  pub less : weight heads links new < weight heads links (old ++ s ∷ [])
