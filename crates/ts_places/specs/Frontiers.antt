-- The heads that stand at a place or past it.
use Rattle.std.specs.Prelude.{◌≡◌, ℕ, suc, min, ◌<◌, ◌≤◌, ◌⊎◌, List, slice_get, Option, Some, None, ◌↔◌}
use Rattle.std.specs.List.{Contains}
use Rattle.spec_graph.specs.declared.graph.Head.{Head}
use Rattle.ts_graph.specs.declared.view.GraphView.{GraphView}
use Rattle.ts_places.specs.Looking.{IsHeadAt}

-- the head of this number stands at the place or past it
abbrev pub StandsFrom : GraphView → ℕ → ℕ → Type 0
StandsFrom g place h = (head : Head) × (slice_get g.heads h ≡ Some head) × (place ≤ head.place)

-- so do all of these
abbrev pub AllStandFrom : GraphView → ℕ → List ℕ → Type 0
AllStandFrom g place heads = (h : ℕ) → Contains heads h → StandsFrom g place h

-- the heads at the place or past it are these
abbrev pub AreOpen : GraphView → ℕ → List ℕ → Type 0
AreOpen g place heads = (h : ℕ) → Contains heads h ↔ StandsFrom g place h

-- the head of the stack over which the graph lies stands at the place or past it, and no other does
pub record IsAloneFrom (g : GraphView) (place : ℕ) : Type 0 where
  pub there : StandsFrom g place g.base
  pub alone : (h : ℕ) → StandsFrom g place h → h ≡ g.base

-- those of the heads that stand at the place are these
abbrev pub AreThoseAt : GraphView → ℕ → List ℕ → List ℕ → Type 0
AreThoseAt g place heads here = (h : ℕ) → Contains here h ↔ (Contains heads h × IsHeadAt g place h)

-- those of the heads that stand past the place are these
abbrev pub AreThosePast : GraphView → ℕ → List ℕ → List ℕ → Type 0
AreThosePast g place heads past =
    (h : ℕ) → Contains past h ↔ (Contains heads h × StandsFrom g (suc place) h)

-- the heads past the place, of those from a number on, were put to others
abbrev pub AddsPast : GraphView → ℕ → ℕ → List ℕ → List ℕ → Type 0
AddsPast g from place old new =
    (h : ℕ) → Contains new h ↔ (Contains old h ⊎ ((from ≤ h) × StandsFrom g (suc place) h))

-- the lesser of two places, or the one that there is
abbrev pub sooner : Option ℕ → ℕ → Option ℕ
sooner None place = Some place
sooner (Some least) place = Some (min least place)

-- the least place at which one of the heads stands, and none where there is no head
abbrev pub IsLeastPlace : GraphView → List ℕ → Option ℕ → Type 0
IsLeastPlace g heads None = (h : ℕ) → Contains heads h → ⊥
IsLeastPlace g heads (Some least) =
    ((h : ℕ) × Contains heads h × IsHeadAt g least h) × AllStandFrom g least heads

-- no head stands between the two places
abbrev pub HasNoneBetween : GraphView → ℕ → ℕ → Type 0
HasNoneBetween g place next =
    (other h : ℕ) → place < other → other < next → IsHeadAt g other h → ⊥

-- The second place is the first past the other at which a head stands, and the heads are those that
-- stand there or past it.
pub record IsNextPlace (g : GraphView) (place : ℕ) (heads : List ℕ) (next : ℕ) : Type 0 where
  pub past : place < next
  pub head : ℕ
  pub there : IsHeadAt g next head
  pub between : HasNoneBetween g place next
  pub are_open : AreOpen g next heads

-- no head stands past the place
abbrev pub IsLastPlace : GraphView → ℕ → Type 0
IsLastPlace g place = (h : ℕ) → StandsFrom g (suc place) h → ⊥

-- the next place with its heads, if there is one
abbrev pub IsNextOpen : GraphView → ℕ → List ℕ → Option ℕ → Type 0
IsNextOpen g place heads None = IsLastPlace g place
IsNextOpen g place heads (Some next) = IsNextPlace g place heads next
