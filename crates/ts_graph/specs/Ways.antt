-- The ways down that a reduction takes, and where they end.
use Rattle.std.specs.Prelude.{◌≡◌, ℕ, ◌≤◌, List, [], ◌∷◌, length, slice_get, Some}
use Rattle.std.specs.List.{Contains}
use Rattle.spec_trees.specs.Made.{filling, EndsFilled}
use Rattle.spec_graph.specs.declared.graph.Head.{Head}
use Rattle.spec_graph.specs.declared.graph.Link.{Link}
use Rattle.spec_graph.specs.Links.{IsWay, way_trees}
use Rattle.ts_graph.specs.declared.ways.Way.{Way}
use Rattle.ts_graph.specs.Down.{place_at}

-- the links of these numbers, one after another
abbrev pub AreAt : List Link → List ℕ → List Link → Type 0
AreAt links [] [] = Unit {0}
AreAt links [] (l ∷ taken) = ⊥
AreAt links (k ∷ numbers) [] = ⊥
AreAt links (k ∷ numbers) (l ∷ taken) = (slice_get links k ≡ Some l) × AreAt links numbers taken

-- a way down with so many trees that are no extras, the lowest of which is one
pub record TakesFilled (links : List Link) (h count : ℕ) (taken : List Link) (b : ℕ)
    : Type 0 where
  pub way : IsWay links h taken b
  pub filled : length (filling (way_trees taken)) ≡ count
  pub ends : EndsFilled (way_trees taken)

-- the only such way, by the numbers of its links
pub record IsOnlyWay (links : List Link) (h count : ℕ) (numbers : List ℕ) (b : ℕ) : Type 0 where
  pub taken : List Link
  pub at : AreAt links numbers taken
  pub takes : TakesFilled links h count taken b
  pub only : (other : List Link) (end : ℕ) → TakesFilled links h count other end
      → (other ≡ taken) × (end ≡ b)

-- all such ways by the numbers of their links, each once
pub record ListsWays (links : List Link) (h count : ℕ) (ways : List Way) : Type 0 where
  pub each : (w : Way) → Contains ways w
      → (taken : List Link) × AreAt links w.links taken × TakesFilled links h count taken w.below
  pub all : (taken : List Link) (b : ℕ) → TakesFilled links h count taken b
      → (w : Way) × Contains ways w × AreAt links w.links taken × (w.below ≡ b)
  pub once : (i j : ℕ) (w : Way) → slice_get ways i ≡ Some w → slice_get ways j ≡ Some w → i ≡ j

-- those of them that end at a head of a place
pub record ListsWaysTo (heads : List Head) (links : List Link) (h count place : ℕ)
    (ways : List Way) : Type 0 where
  pub each : (w : Way) → Contains ways w
      → (taken : List Link) × AreAt links w.links taken
      × TakesFilled links h count taken w.below × (place_at heads w.below ≡ place)
  pub all : (taken : List Link) (b : ℕ) → TakesFilled links h count taken b
      → place_at heads b ≡ place
      → (w : Way) × Contains ways w × AreAt links w.links taken × (w.below ≡ b)
  pub once : (i j : ℕ) (w : Way) → slice_get ways i ≡ Some w → slice_get ways j ≡ Some w → i ≡ j

-- such a way ends at a place, which is at most another
pub record EndsBy (heads : List Head) (links : List Link) (h count most place : ℕ)
    : Type 0 where
  pub taken : List Link
  pub below : ℕ
  pub takes : TakesFilled links h count taken below
  pub at : place_at heads below ≡ place
  pub low : place ≤ most

-- the latest of these places
pub record IsLatestEnd (heads : List Head) (links : List Link) (h count most place : ℕ)
    : Type 0 where
  pub ends : EndsBy heads links h count most place
  pub latest : (other : ℕ) → EndsBy heads links h count most other → other ≤ place
