-- The links that lead down from a head, and what holds of every graph.
use Rattle.std.specs.Prelude.{◌≡◌, ℕ, ◌+◌, ◌<◌, ◌≤◌, ◌⊎◌, max, List, [], ◌∷◌, ◌++◌, length, map, take, slice_get, Option, Some, None, if◌then◌else◌, nat_eq}
use Rattle.std.specs.Option.{option_map_or}
use Rattle.spec_trees.specs.declared.tree.Tree.{Tree}
use Rattle.spec_trees.specs.Choice.{Better}
use Rattle.spec_graph.specs.declared.graph.Head.{Head}
use Rattle.spec_graph.specs.declared.graph.Link.{Link}

-- ---- down from a head

-- the number of a link, where it leads down from the head
abbrev pub number_if : ℕ → ℕ → ℕ → List ℕ
number_if h n above = if nat_eq above h then n ∷ [] else []

-- the numbers of the links that lead down from a head, the newest first, counted from a number on
abbrev pub numbers_down : ℕ → ℕ → List ℕ → List ℕ
numbers_down h n [] = []
numbers_down h n (above ∷ aboves) = numbers_down h (n + 1) aboves ++ number_if h n above

-- the numbers of all links that lead down from a head, the newest first
abbrev pub links_down : List Link → ℕ → List ℕ
links_down links h = numbers_down h 0 (map (λ l. l.above) links)

-- the same from one of these links on
abbrev pub links_from : List Link → ℕ → Option ℕ → List ℕ
links_from links h None = []
links_from links h (Some k) = k ∷ links_down (take k links) h

-- ---- between two heads

-- the link of this number leads from one head down to another
pub record IsBetween (links : List Link) (above below k : ℕ) : Type 0 where
  pub link : Link
  pub at : slice_get links k ≡ Some link
  pub above_is : link.above ≡ above
  pub below_is : link.below ≡ below

-- no link leads from one head down to another
abbrev pub HasNone : List Link → ℕ → ℕ → Type 0
HasNone links above below = (k : ℕ) → IsBetween links above below k → ⊥

-- the link of these parts
abbrev pub link_with : ℕ → ℕ → Tree → ℕ → Link
link_with above below tree depth = record {
  above = above;
  below = below;
  tree = tree;
  depth = depth;
}

-- A tree was packed into a link: the better of the two trees stays, that of the link where the
-- other is not better, and the greater depth.
pub record IsPacked (old : Link) (tree : Tree) (depth : ℕ) (new : Link) : Type 0 where
  pub above_stays : new.above ≡ old.above
  pub below_stays : new.below ≡ old.below
  pub better : Better tree old.tree → new.tree ≡ tree
  pub no_better : (Better tree old.tree → ⊥) → new.tree ≡ old.tree
  pub depth_is : new.depth ≡ max old.depth depth

-- all links from a number on lead down from heads from another number on
abbrev pub LeadFrom : List Link → ℕ → ℕ → Type 0
LeadFrom links first head =
    (k : ℕ) (l : Link) → slice_get links k ≡ Some l → first ≤ k → head ≤ l.above

-- ---- every graph

-- the place of the head of a number
abbrev pub place_at : List Head → ℕ → ℕ
place_at heads h = option_map_or (λ (head : Head). head.place) (slice_get heads h) 0

-- each head keeps its number
abbrev pub KeepNumbers : List Head → List Head → Type 0
KeepNumbers heads new =
    (h : ℕ) (head : Head) → slice_get heads h ≡ Some head → slice_get new h ≡ Some head

-- The head of this number was there, or was put at the end.
pub record OpensAt (heads new : List Head) (head : Head) (number : ℕ) : Type 0 where
  pub at : slice_get new number ≡ Some head
  pub added : (new ≡ heads) ⊎ ((new ≡ heads ++ head ∷ []) × (number ≡ length heads))

-- There is at most one link between two heads. Links have their heads, and the one below stands at
-- an earlier place.
pub record HoldsEachOnce (heads : List Head) (links : List Link) : Type 0 where
  pub above_there : (k : ℕ) (l : Link) → slice_get links k ≡ Some l → l.above < length heads
  pub below_there : (k : ℕ) (l : Link) → slice_get links k ≡ Some l → l.below < length heads
  pub falls : (k : ℕ) (l : Link) → slice_get links k ≡ Some l
      → place_at heads l.below < place_at heads l.above
  pub one_each : (j k above below : ℕ) → IsBetween links above below j
      → IsBetween links above below k → j ≡ k
