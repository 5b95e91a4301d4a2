-- From a graph of stacks back to a plain stack.
use Rattle.std.specs.Prelude.{◌≡◌, ℕ, ◌<◌, ◌≤◌, false, List, [], ◌∷◌, ◌++◌, length, map, take, slice_get, Some}
use Rattle.spec_trees.specs.declared.tree.Tree.{Tree}
use Rattle.spec_trees.specs.Trees.{is_extra_node}
use Rattle.spec_trees.specs.Made.{IsLeaf}
use Rattle.spec_graph.specs.declared.graph.Link.{Link}
use Rattle.spec_graph.specs.Links.{IsWay}
use Rattle.spec_crossing.specs.Leaving.{IsOneWay, EndsWithToken}
use Rattle.ts_gss.specs.declared.layer.Layer.{Layer}
use Rattle.ts_gss.specs.Stacks.{packed_layer, stack_at, IsOneStack}
use Rattle.ts_graph.specs.declared.view.GraphView.{GraphView}
use Rattle.ts_graph.specs.Down.{links_down, place_at}
use Rattle.ts_graph.specs.Ways.{AreAt}
use Rattle.ts_graph.specs.Under.{layers_of}
use Rattle.ts_reductions.specs.declared.made.Piece.{Piece}
use Rattle.ts_reductions.specs.SoundLinks.{bare_link, bare_links}
use Rattle.ts_steps.specs.declared.head.StackHead.{StackHead}

-- The links of these numbers are the first of the only way down from a head, and lead down to a
-- head of the stack over which the graph lies. The topmost is a token that was shifted.
pub record IsStack (g : GraphView) (h : ℕ) (numbers : List ℕ) (foot : ℕ) : Type 0 where
  pub way : List Link
  pub all : List ℕ
  pub at : AreAt g.links all way
  pub higher : List Link
  pub higher_at : AreAt g.links numbers higher
  pub lower : List Link
  pub down : IsWay g.links foot lower 0
  pub foot_low : foot ≤ g.base
  pub way_is : way ≡ higher ++ lower
  pub only : IsOneWay (bare_links g.links) h (map bare_link way)
  pub token : EndsWithToken (map bare_link way)

-- no way down from the head is such a one
abbrev pub HasNoStack : GraphView → ℕ → Type 0
HasNoStack g h =
    (way : List Link) → IsOneWay (bare_links g.links) h way → EndsWithToken way → ⊥

-- the layer of what a link has
abbrev pub layer_with_piece : Piece → Layer
layer_with_piece p = packed_layer p.node p.state p.depth

-- The stack of the head has the layers of the way down from a head of the graph, and its place. It
-- is alone, with those below it.
pub record IsLeft (g : GraphView) (h : ℕ) (way : List Link) (stacks : List (List Layer))
    (k : StackHead) : Type 0 where
  pub there : k.top < length stacks
  pub one : IsOneStack stacks k.top
  pub stack : stack_at stacks k.top ≡ layers_of g.heads way
  pub place : k.place ≡ place_at g.heads h

-- ---- under way. It serves private clauses and proofs alone.

-- no earlier link leads down from the same head as the link of this number
abbrev pub IsAlone : List Link → ℕ → Type 0
IsAlone links k =
    (l : Link) → slice_get links k ≡ Some l → links_down (take k links) l.above ≡ []

-- one link alone leads down from the head
pub record IsOnlyDown (links : List Link) (h k : ℕ) : Type 0 where
  pub link : Link
  pub at : slice_get links k ≡ Some link
  pub above : link.above ≡ h
  pub only : (j : ℕ) (other : Link) → slice_get links j ≡ Some other → other.above ≡ h → j ≡ k

-- the tree is a token that was shifted
pub record IsTokenTree (t : Tree) : Type 0 where
  pub leaf : IsLeaf t
  pub fills : is_extra_node t ≡ false

-- and so is that link's tree
pub record IsLastToken (links : List Link) (h k : ℕ) : Type 0 where
  pub down : IsOnlyDown links h k
  pub token : IsTokenTree down.link.tree

-- Links lead from one head down to another, each the only one from its head. So whichever way leads
-- on down begins with them.
pub record LeadsDown (links : List Link) (h : ℕ) (numbers : List ℕ) (b : ℕ) : Type 0 where
  pub way : List Link
  pub at : AreAt links numbers way
  pub down : IsWay (bare_links links) h (map bare_link way) b
  pub first : (other : List Link) → IsWay (bare_links links) h other 0
      → (rest : List Link) × (other ≡ map bare_link way ++ rest)
      × IsWay (bare_links links) b rest 0

-- and the first of them is a token that was shifted
pub record StartsWith (links : List Link) (h k : ℕ) (numbers : List ℕ) (b : ℕ) : Type 0 where
  pub last : IsLastToken links h k
  pub more : List ℕ
  pub is : numbers ≡ k ∷ more
  pub leads : LeadsDown links h numbers b
