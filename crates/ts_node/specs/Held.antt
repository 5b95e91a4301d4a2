-- What the parts of a node hold.
use Rattle.std.specs.Prelude.{◌≡◌, ◌++◌, ◌*◌, ◌^◌, ◌≤◌, ◌<◌, ℕ, ◌+◌, All, List, [], ◌∷◌, length, set, Option, None, Some, Bool, true, false, ◌&&◌}
use Rattle.std.specs.Int.RustNames.{unsigned_abs}
use lib.IntN.{pos}
use Rattle.spec_trees.specs.declared.tree.Tree.{Tree}
use Rattle.spec_trees.specs.declared.tree.Element.{Element}
use Rattle.spec_trees.specs.declared.tree.Stretch.{Stretch}
use Rattle.spec_trees.specs.declared.tree.Tree.TheViews.{roll-Tree}
use Rattle.spec_trees.specs.Trees.{node_count, tree_depth, all_nodes, all_spans, all_totals, all_values, greatest_depth, symbol_of, pad_of, size_of, node_extent, state_of, is_settled, total_of}
use Rattle.spec_trees.specs.Made.{IsNode, children_count, reach_of, loosened_at, most_span, node_limit}
use Rattle.spec_trees.specs.Inside.{IsNodeIn}
use Rattle.ts_node.specs.declared.node.Leaf.{Leaf}
use Rattle.ts_node.specs.declared.node.Summary.{Summary}
use Rattle.ts_node.specs.declared.node.Counts.{Counts}
use Rattle.ts_node.specs.declared.node.Sums.{Sums}
use Rattle.ts_node.specs.declared.node.Kind.{Kind}
use Rattle.ts_node.specs.declared.node.Kind.TheVariants as kind
use Rattle.ts_node.specs.declared.rule.RuleBody.{RuleBody}
use Rattle.ts_node.specs.declared.rule.RuleBody.TheVariants as form
use Rattle.ts_node.specs.declared.single.SingleBody.{SingleBody}
use Rattle.ts_node.specs.declared.single.SingleBody.TheVariants as single
use Rattle.ts_node.specs.declared.node.Shape.{Shape}
use Rattle.ts_node.specs.declared.node.Shape.TheVariants as shape

-- the tree that a leaf stands for
abbrev pub leaf_tree : Leaf → Tree
leaf_tree l = roll-Tree (record {
  symbol = l.symbol;
  production = None;
  pad = l.pad;
  size = l.size;
  dynamic = pos 0;
  extent = l.extent;
  state = l.state;
  settled = l.settled;
  extra = l.extra;
  elements = [];
  children = [];
})

-- the leaf, standing as an extra
abbrev pub extra_leaf : Leaf → Leaf
extra_leaf l = record {
  pad = l.pad;
  size = l.size;
  extent = l.extent;
  symbol = l.symbol;
  settled = l.settled;
  extra = true;
  state = l.state;
}

-- the leaf as an edit leaves it
abbrev pub remade_leaf : ℕ → ℕ → Leaf → Leaf
remade_leaf pad size l = record {
  pad = pad;
  size = size;
  extent = l.extent;
  symbol = l.symbol;
  settled = false;
  extra = l.extra;
  state = l.state;
}

-- the tree of a node with these children
abbrev pub body_tree : Summary → Option ℕ → List Element → List Tree → Tree
body_tree s production elements children = roll-Tree (record {
  symbol = s.symbol;
  production = production;
  pad = s.pad;
  size = s.size;
  dynamic = s.dynamic;
  extent = s.extent;
  state = s.state;
  settled = s.settled;
  extra = false;
  elements = elements;
  children = children;
})

-- the tree of a rule's node with these children
abbrev pub rule_tree : Summary → List Tree → Tree
rule_tree s children = body_tree s (Some s.production) [] children

-- the tree that a rule's node of this body stands for
abbrev pub body_of : RuleBody → Tree
body_of (form.One body) = body
body_of (form.Two body) = body
body_of (form.Three body) = body
body_of (form.Four body) = body
body_of (form.Many body) = body

-- the tree that a repetition of one element of this body stands for
abbrev pub single_of : SingleBody → Tree
single_of (single.One body) = body
single_of (single.Two body) = body

-- the tree that a node stands for
abbrev pub node_tree : Kind → Tree
node_tree (kind.Leaf leaf) = leaf_tree leaf
node_tree (kind.Rule body) = body
node_tree (kind.Repetition body) = body
node_tree (kind.Single body) = body

-- a leaf keeps this itself, the others by their types
abbrev pub IsKeptLeaf : Kind → Type 0
IsKeptLeaf (kind.Leaf leaf) = IsNode (leaf_tree leaf)
IsKeptLeaf (kind.Rule body) = Unit {0}
IsKeptLeaf (kind.Repetition body) = Unit {0}
IsKeptLeaf (kind.Single body) = Unit {0}

-- each node in a tree is one
abbrev pub HoldsNodes : Tree → Type 0
HoldsNodes t = (u : Tree) → IsNodeIn t u → IsNode u

-- A summary agrees with its tree, which is a node, as are all nodes in it.
pub record IsSummary (s : Summary) (t : Tree) : Type 0 where
  pub counted : s.nodes ≡ node_count t
  pub deep : s.depth ≡ tree_depth t
  pub node : IsNode t
  pub whole : HoldsNodes t

-- a summary tells all this of a tree, which is a node, as are all nodes in it
pub record Tells (s : Summary) (t : Tree) : Type 0 where
  pub symbol : s.symbol.0 ≡ symbol_of t
  pub pad : s.pad ≡ pad_of t
  pub size : s.size ≡ size_of t
  pub extent : s.extent ≡ node_extent t
  pub state : s.state ≡ state_of t
  pub settled : s.settled ≡ is_settled t
  pub dynamic : s.dynamic ≡ total_of t
  pub nodes : s.nodes ≡ node_count t
  pub depth : s.depth ≡ tree_depth t
  pub node : IsNode t
  pub whole : HoldsNodes t

-- ---- runs

-- two stretches one after the other
abbrev pub joined_stretch : Stretch → Stretch → Stretch
joined_stretch s t = record {
  elements = s.elements ++ t.elements;
  children = s.children ++ t.children;
}

-- a stretch of these elements and children
abbrev pub stretch : List Element → List Tree → Stretch
stretch elements children = record { elements = elements; children = children }

-- a stretch with one child replaced
abbrev pub changed : Stretch → ℕ → Tree → Stretch
changed s k t = record { elements = s.elements; children = set s.children k t }

-- a stretch with one element not settled
abbrev pub loosened_stretch : Stretch → ℕ → Stretch
loosened_stretch s k = record { elements = loosened_at k s.elements; children = s.children }

-- what a run holds
abbrev pub stretch_of : Shape → Stretch
stretch_of (shape.Leaf elements children) = stretch elements children
stretch_of (shape.Branch left right) = joined_stretch left right

-- no part of a run is without elements
abbrev pub HasNoEmptyPart : Shape → Type 0
HasNoEmptyPart (shape.Leaf elements children) = 0 < length elements
HasNoEmptyPart (shape.Branch left right) = (0 < length left.elements) × (0 < length right.elements)

-- what is added up over children, in which all nodes are nodes
pub record IsSum (s : Sums) (ts : List Tree) : Type 0 where
  pub nodes : s.nodes ≡ all_nodes ts
  pub spans : s.spans ≡ all_spans ts
  pub depth : s.depth ≡ greatest_depth ts
  pub totals : s.totals ≡ all_totals ts
  pub few : all_nodes ts ≤ node_limit * length ts
  pub short : all_spans ts ≤ most_span * length ts
  pub modest : unsigned_abs (all_totals ts) ≤ 2 ^ 31 * all_nodes ts
  pub whole : All HoldsNodes ts

-- whether all elements are settled
abbrev pub all_settled : List Element → Bool
all_settled [] = true
all_settled (e ∷ es) = e.settled && all_settled es

-- what is counted of a stretch, whose elements have just its children
pub record IsCount (c : Counts) (s : Stretch) : Type 0 where
  pub elements : c.elements ≡ length s.elements
  pub children : c.children ≡ length s.children
  pub settled : c.settled ≡ all_settled s.elements
  pub values : c.values ≡ all_values s.elements
  pub small : unsigned_abs (all_values s.elements) ≤ 2 ^ 31 * length s.elements
  pub reach : c.reach ≡ reach_of s.elements s.children
  pub near : reach_of s.elements s.children ≤ most_span * length s.children + 2 ^ 32
  pub sums : IsSum c.sums s.children
  pub own : children_count s.elements ≡ length s.children
  pub some : 0 < length s.elements

-- what a run keeps
pub record IsWhole (c : Counts) (s : Shape) : Type 0 where
  pub counted : IsCount c (stretch_of s)
  pub held : HasNoEmptyPart s
