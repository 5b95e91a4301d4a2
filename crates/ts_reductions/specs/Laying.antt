-- Trees that are laid on a head of a graph.
use Rattle.std.specs.Prelude.{◌≡◌, ℕ, ◌+◌, ◌<◌, ◌≤◌, ◌⊎◌, suc, true, List, [], ◌∷◌, length, slice_get, Some}
use Rattle.std.specs.List.{Contains, flat_map}
use Rattle.ts_core.specs.declared.symbol.Symbol.{Symbol}
use Rattle.spec_trees.specs.declared.tree.Tree.{Tree}
use Rattle.spec_trees.specs.Trees.{node_extent, span_of, all_spans, tree_depth, is_extra_node, bare}
use Rattle.spec_trees.specs.Made.{most_depth}
use Rattle.spec_trees.specs.Choice.{IsInForm}
use Rattle.spec_graph.specs.declared.graph.Head.{Head}
use Rattle.spec_graph.specs.declared.graph.Link.{Link}
use Rattle.spec_graph.specs.States.{LeadsTo}
use Rattle.spec_graph.specs.Laying.{Parsing, from_start, IsMet, Lays, PassesAt, extra_tree}
use Rattle.spec_graph.specs.Replacing.{Replaces}
use Rattle.spec_graph.specs.Links.{IsAt, HasLink}
use Rattle.ts_graph.specs.declared.view.GraphView.{GraphView}
use Rattle.ts_graph.specs.Down.{KeepNumbers, place_at}
use Rattle.ts_reductions.specs.declared.made.Made.{Made}
use Rattle.ts_reductions.specs.SoundLinks.{bare_links, IsSoundFor}

-- After these symbols, at this place, the tree can be laid, up to a state. It has bytes, and is no
-- deeper than the depth, which is one if it is an extra. Where the stack from which runs go on was
-- met, some tree of the depth can be laid there from the start of the text.
pub record FitsAfter (P : Parsing) (read : List ℕ) (from : ℕ) (tree : Tree)
    (depth state : ℕ) : Type 0 where
  pub now : List ℕ
  pub leads : LeadsTo P.goto now state
  pub lays : Lays P read from (bare tree ∷ []) (from + span_of tree) now
  pub shallow : tree_depth tree ≤ depth
  pub flat : is_extra_node tree ≡ true → depth ≡ 1
  pub deepest : IsMet P → (u : Tree)
      × Lays (from_start P) read from (u ∷ []) (from + span_of tree) now
      × (tree_depth u ≡ depth)
  pub form : IsInForm P.grammar tree
  pub some : 0 < span_of tree
  pub reach : from + node_extent tree ≤ suc (length P.text)
  pub within : from + span_of tree ≤ length P.text
  pub not_deep : depth ≤ most_depth

-- The graph is sound, and the tree can be laid on one of its heads.
pub record CanLayOn (P : Parsing) (g : GraphView) (below : ℕ) (tree : Tree)
    (depth state : ℕ) : Type 0 where
  pub sound : IsSoundFor P g
  pub read : List ℕ
  pub from : ℕ
  pub at : IsAt P g.heads below read from
  pub fits : FitsAfter P read from tree depth state

-- a link between two heads may stand for the tree, and for this depth
pub record HasTree (links : List Link) (below : ℕ) (tree : Tree) (depth above : ℕ)
    : Type 0 where
  pub link : Link
  pub there : Contains links link
  pub below_is : link.below ≡ below
  pub above_is : link.above ≡ above
  pub replaces : Replaces link.tree tree
  pub no_less : depth ≤ link.depth

-- the head of a state at a place
abbrev pub head_at : ℕ → ℕ → Head
head_at state place = record { state = state; place = place }

-- each link keeps its number and its heads, and its tree is an extra where it was one
abbrev pub KeepLinks : List Link → List Link → Type 0
KeepLinks links new = (k : ℕ) (l : Link) → slice_get links k ≡ Some l
    → (n : Link) × (slice_get new k ≡ Some n) × (n.above ≡ l.above) × (n.below ≡ l.below)
    × (is_extra_node n.tree ≡ is_extra_node l.tree)

-- Each head keeps its number, and so does each link. It stays between its heads, with a tree that
-- may take the place of the one that it had, and no lesser depth.
pub record Grows (old new : GraphView) : Type 0 where
  pub stay : KeepNumbers old.heads new.heads
  pub kept : KeepLinks old.links new.links
  pub links : (l : Link) → Contains (bare_links old.links) l
      → (n : Link) × Contains (bare_links new.links) n × (n.above ≡ l.above)
      × (n.below ≡ l.below) × Replaces n.tree l.tree × (l.depth ≤ n.depth)

-- trees one after another from a place on, each with the place where it begins
abbrev pub placed : ℕ → List Tree → List (ℕ × Tree)
placed place [] = []
placed place (t ∷ ts) = (place, t) ∷ placed (place + span_of t) ts

-- a link with this tree was there between the same heads
abbrev pub WasThere : GraphView → Link → Type 0
WasThere old l = (o : Link) × Contains old.links o
    × (o.above ≡ l.above) × (o.below ≡ l.below) × (l.tree ≡ o.tree)

-- each link was there, or has one of these trees, at its place
abbrev pub TreesFrom : GraphView → GraphView → List (ℕ × Tree) → Type 0
TreesFrom old new ts = (l : Link) → Contains new.links l
    → Contains ts (place_at new.heads l.below, l.tree) ⊎ WasThere old l

-- The graph has grown by the head at most to which a tree on one of its heads reaches, and has a
-- link for the tree between the two. It is sound still.
pub record IsLaid (P : Parsing) (old new : GraphView) (below from : ℕ)
    (tree : Tree) (depth state above : ℕ) : Type 0 where
  pub sound : IsSoundFor P new
  pub grows : Grows old new
  pub at : slice_get new.heads above ≡ Some (head_at state (from + span_of tree))
  pub only : (h : ℕ) (head : Head) → slice_get new.heads h ≡ Some head
      → (slice_get old.heads h ≡ Some head) ⊎ (h ≡ above)
  pub has : HasTree (bare_links new.links) below (bare tree) depth above
  pub trees : (l : Link) → Contains new.links l
      → ((l.below ≡ below) × (l.tree ≡ tree)) ⊎ WasThere old l

-- ---- extras

-- The trees are extras, which can be laid one on another from a place on, after these symbols.
abbrev pub FitExtras : Parsing → List ℕ → ℕ → ℕ → List Tree → Type 0
FitExtras P read from state [] = Unit {0}
FitExtras P read from state (x ∷ xs) =
    FitsAfter P read from x 1 state × (is_extra_node x ≡ true)
    × FitExtras P read (from + span_of x) state xs

-- An extra is passed at the head, which stands where the stack from which runs go on ends, or past
-- it; and a link stands for the extra.
pub record HasPassed (P : Parsing) (g : GraphView) (h : ℕ) : Type 0 where
  pub read : List ℕ
  pub from : ℕ
  pub late : P.place ≤ from
  pub at : IsAt P g.heads h read from
  pub symbol : Symbol
  pub pad : ℕ
  pub size : ℕ
  pub passes : PassesAt P read from symbol pad size
  pub link : HasLink P g.heads (bare_links g.links) h
      (extra_tree symbol pad size) (from + (pad + size)) read

-- A new head is not that of the empty stack. It stands at the place, or an extra is passed at it.
abbrev pub IsNewHead : Parsing → GraphView → ℕ → ℕ → Head → Type 0
IsNewHead P g look h head =
    (head.state ≡ 0 → ⊥) × ((head.place ≡ look) ⊎ HasPassed P g h)

-- The graph is sound, and the extras can be laid on one of its heads, which is not that of the
-- empty stack, and stands where the stack from which runs go on ends, or past it.
pub record CanLayExtras (P : Parsing) (g : GraphView) (base : ℕ)
    (xs : List Tree) (state : ℕ) : Type 0 where
  pub sound : IsSoundFor P g
  pub read : List ℕ
  pub from : ℕ
  pub at : IsAt P g.heads base read from
  pub late : P.place ≤ from
  pub leads : LeadsTo P.goto read state
  pub some : read ≡ [] → ⊥
  pub fit : FitExtras P read from state xs

-- The graph is sound still. At the head at the base and at each new head an extra is passed, but at
-- those that stand where the extras end.
pub record AreExtrasLaid (P : Parsing) (old new : GraphView) (base end : ℕ) (xs : List Tree)
    : Type 0 where
  pub sound : IsSoundFor P new
  pub grows : Grows old new
  pub based : (place_at new.heads base ≡ end) ⊎ HasPassed P new base
  pub only : (h : ℕ) (head : Head) → slice_get new.heads h ≡ Some head
      → (slice_get old.heads h ≡ Some head) ⊎ IsNewHead P new end h head
  pub trees : TreesFrom old new (placed (place_at old.heads base) xs)

-- ---- what a reduction makes

-- The graph is sound, and the node can be laid on one of its heads, and then the extras. It ends
-- where the stack from which runs go on ends, or past it.
pub record CanLayMade (P : Parsing) (g : GraphView) (m : Made) : Type 0 where
  pub sound : IsSoundFor P g
  pub read : List ℕ
  pub from : ℕ
  pub at : IsAt P g.heads m.below read from
  pub fits : FitsAfter P read from m.piece.node m.piece.depth m.piece.state
  pub late : P.place ≤ from + span_of m.piece.node
  pub some : fits.now ≡ [] → ⊥
  pub extras : FitExtras P fits.now (from + span_of m.piece.node) m.piece.state m.extras

-- the place where the extras end
abbrev pub end_of : GraphView → Made → ℕ
end_of g m = place_at g.heads m.below + (span_of m.piece.node + all_spans m.extras)

-- A link stands for the node, up to the head of its state where the node ends.
pub record HasNode (g : GraphView) (m : Made) : Type 0 where
  pub above : ℕ
  pub at : slice_get g.heads above
      ≡ Some (head_at m.piece.state (place_at g.heads m.below + span_of m.piece.node))
  pub has : HasTree (bare_links g.links) m.below (bare m.piece.node) m.piece.depth above

-- the trees of what a reduction makes, each with its place
abbrev pub trees_of : GraphView → Made → List (ℕ × Tree)
trees_of g m = placed (place_at g.heads m.below) (m.piece.node ∷ m.extras)

-- The graph has grown, is sound still, and a link stands for the node.
pub record IsMadeLaid (P : Parsing) (old new : GraphView) (look : ℕ)
    (m : Made) : Type 0 where
  pub sound : IsSoundFor P new
  pub grows : Grows old new
  pub has : HasNode new m
  pub only : (h : ℕ) (head : Head) → slice_get new.heads h ≡ Some head
      → (slice_get old.heads h ≡ Some head) ⊎ IsNewHead P new look h head
  pub trees : TreesFrom old new (trees_of old m)

-- The graph is sound, all of these can be laid on its heads, and they end at the place.
pub record CanLayAll (P : Parsing) (g : GraphView) (look : ℕ) (mades : List Made) : Type 0 where
  pub sound : IsSoundFor P g
  pub each : (m : Made) → Contains mades m → CanLayMade P g m
  pub ends : (m : Made) → Contains mades m → end_of g m ≡ look

-- the same of all of these
pub record AreAllLaid (P : Parsing) (old new : GraphView) (look : ℕ)
    (mades : List Made) : Type 0 where
  pub sound : IsSoundFor P new
  pub grows : Grows old new
  pub each : (m : Made) → Contains mades m → HasNode new m
  pub only : (h : ℕ) (head : Head) → slice_get new.heads h ≡ Some head
      → (slice_get old.heads h ≡ Some head) ⊎ IsNewHead P new look h head
  pub trees : TreesFrom old new (flat_map (trees_of old) mades)
