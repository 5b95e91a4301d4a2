-- Graphs of stacks that are sound for what is parsed.
use Rattle.std.specs.Prelude.{◌≡◌, ℕ, ◌+◌, ◌<◌, ◌≤◌, suc, List, length, map, slice_get, Some}
use Rattle.std.specs.List.{Contains}
use Rattle.spec_tables.specs.Fit.{Fit}
use Rattle.spec_trees.specs.Trees.{node_extent, span_of, bare}
use Rattle.spec_trees.specs.Made.{most_span, most_depth}
use Rattle.spec_trees.specs.Choice.{IsInForm}
use Rattle.spec_graph.specs.declared.graph.Head.{Head}
use Rattle.spec_graph.specs.declared.graph.Link.{Link}
use Rattle.spec_graph.specs.States.{AreStates}
use Rattle.spec_graph.specs.Laying.{Parsing}
use Rattle.spec_graph.specs.Grounded.{IsGrounded}
use Rattle.spec_graph.specs.Links.{IsGraph}
use Rattle.ts_graph.specs.declared.view.GraphView.{GraphView}
use Rattle.ts_graph.specs.Down.{place_at}

-- the states are those of the grammar, which is fit; the stack from which runs go on has such trees
-- as moves make, and the text is not too long
pub record CanBeParsed (P : Parsing) : Type 0 where
  pub fit : Fit P.grammar
  pub states : AreStates P.grammar P.goto
  pub grounded : IsGrounded P
  pub short : length P.text ≤ most_span

-- the link with its bare tree
abbrev pub bare_link : Link → Link
bare_link l = record { above = l.above; below = l.below; tree = bare l.tree; depth = l.depth }

-- the same of each link
abbrev pub bare_links : List Link → List Link
bare_links links = map bare_link links

-- A link has a tree of the grammar with bytes, which reaches from the place of the head below to
-- that of the head above, and for which no more was examined than the text and its end. Its depth
-- is not too great.
pub record IsHeld (P : Parsing) (heads : List Head) (l : Link) : Type 0 where
  pub form : IsInForm P.grammar l.tree
  pub some : 0 < span_of l.tree
  pub spans : place_at heads l.below + span_of l.tree ≡ place_at heads l.above
  pub reach : place_at heads l.below + node_extent l.tree ≤ suc (length P.text)
  pub not_deep : l.depth ≤ most_depth

-- The graph is sound over the stack from which runs go on, its links have what they should, and its
-- heads stand within the text.
pub record IsSoundFor (P : Parsing) (g : GraphView) : Type 0 where
  pub parsed : CanBeParsed P
  pub graph : IsGraph P g.heads (bare_links g.links)
  pub held : (l : Link) → Contains g.links l → IsHeld P g.heads l
  pub within : (h : ℕ) (head : Head) → slice_get g.heads h ≡ Some head
      → head.place ≤ length P.text
