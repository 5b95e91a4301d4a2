-- Ways under way: what becomes of them by one more link. For private clauses and proofs.
use Rattle.std.specs.Prelude.{◌≡◌, ℕ, ◌+◌, ◌-◌, ◌<◌, max, Bool, true, List, [], ◌∷◌, ◌++◌, length, map, slice_get, Option, Some, None, if◌then◌else◌, nat_eq, nat_lt}
use Rattle.std.specs.List.{Contains, flat_map}
use Rattle.std.specs.Option.{option_map_or}
use Rattle.spec_trees.specs.Trees.{is_extra_node}
use Rattle.spec_graph.specs.declared.graph.Head.{Head}
use Rattle.spec_graph.specs.declared.graph.Link.{Link}
use Rattle.ts_graph.specs.declared.ways.Way.{Way}
use Rattle.ts_graph.specs.declared.ways.Part.{Part}
use Rattle.ts_graph.specs.Down.{links_down, place_at}
use Rattle.ts_graph.specs.Ways.{AreAt, TakesFilled}

-- the head below the link of a number
abbrev pub below_at : List Link → ℕ → ℕ
below_at links k = option_map_or (λ (l : Link). l.below) (slice_get links k) 0

-- how many trees that are no extras are wanting after a link
abbrev pub wanting_past : List Link → ℕ → ℕ → ℕ
wanting_past links wanting k =
    option_map_or (λ (l : Link). if is_extra_node l.tree then wanting else wanting - 1)
    (slice_get links k) wanting

-- a way of these links
abbrev pub way_of : List ℕ → ℕ → Way
way_of links below = record { links = links; below = below }

-- a way that wants so many trees
abbrev pub part_of : Way → ℕ → Part
part_of way wanting = record { way = way; wanting = wanting }

-- a way with one more link
abbrev pub next_of : List Link → Part → ℕ → Part
next_of links p k =
    part_of (way_of (p.way.links ++ k ∷ []) (below_at links k)) (wanting_past links p.wanting k)

-- a way with each of the links that lead on down
abbrev pub nexts_of : List Link → Part → List Part
nexts_of links p = map (next_of links p) (links_down links p.way.below)

-- the same of all these ways
abbrev pub all_nexts : List Link → List Part → List Part
all_nexts links parts = flat_map (nexts_of links) parts

-- the way alone, where it wants no more
abbrev pub done_of : Part → List Way
done_of p = if nat_eq p.wanting 0 then p.way ∷ [] else []

-- the way where it wants more
abbrev pub undone_of : Part → List Part
undone_of p = if nat_eq p.wanting 0 then [] else p ∷ []

-- those of these ways that want no more
abbrev pub done_among : List Part → List Way
done_among parts = flat_map done_of parts

-- those of these ways that want more
abbrev pub undone_among : List Part → List Part
undone_among parts = flat_map undone_of parts

-- ---- a place where ways are to end, where one is given

-- a way that wants so many trees may lead there from the head: it ends there, or is above it
abbrev pub leads : List Head → Option ℕ → ℕ → ℕ → Bool
leads heads None h wanting = true
leads heads (Some place) h wanting =
    if nat_eq wanting 0 then nat_eq (place_at heads h) place else nat_lt place (place_at heads h)

-- the way alone, where it may lead there and wants no more
abbrev pub done_to : List Head → Option ℕ → Part → List Way
done_to heads place p = if leads heads place p.way.below p.wanting then done_of p else []

-- the way where it may lead there and wants more
abbrev pub undone_to : List Head → Option ℕ → Part → List Part
undone_to heads place p = if leads heads place p.way.below p.wanting then undone_of p else []

-- those of these ways that may lead there and want no more
abbrev pub all_done : List Head → Option ℕ → List Part → List Way
all_done heads place parts = flat_map (done_to heads place) parts

-- those of these ways that may lead there and want more
abbrev pub all_undone : List Head → Option ℕ → List Part → List Part
all_undone heads place parts = flat_map (undone_to heads place) parts

-- the head stands there
abbrev pub EndsAt : List Head → Option ℕ → ℕ → Type 0
EndsAt heads None h = Unit {0}
EndsAt heads (Some place) h = place_at heads h ≡ place

-- all ways that end there, each once
pub record ListsWaysIn (heads : List Head) (links : List Link) (h count : ℕ) (place : Option ℕ)
    (ways : List Way) : Type 0 where
  pub each : (w : Way) → Contains ways w
      → (taken : List Link) × AreAt links w.links taken
      × TakesFilled links h count taken w.below × EndsAt heads place w.below
  pub all : (taken : List Link) (b : ℕ) → TakesFilled links h count taken b
      → EndsAt heads place b
      → (w : Way) × Contains ways w × AreAt links w.links taken × (w.below ≡ b)
  pub once : (i j : ℕ) (w : Way) → slice_get ways i ≡ Some w → slice_get ways j ≡ Some w → i ≡ j

-- ---- ways that can go on

-- a way ends at a head, and wants more
abbrev pub CanGoOn : List Head → Part → Type 0
CanGoOn heads p = (p.way.below < length heads) × (0 < p.wanting)

-- a place above those of all heads where these ways end
abbrev pub highest : List Head → List Part → ℕ
highest heads [] = 0
highest heads (p ∷ parts) = max (place_at heads p.way.below + 1) (highest heads parts)
