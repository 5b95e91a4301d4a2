-- A parse tree, and what is added up over it.
use Rattle.std.specs.Prelude.{ℕ, ◌+◌, max, Bool, false, List, [], ◌∷◌, length, map, Option, None}
use lib.IntN.{ℤ, pos, ◌+ℤ◌}
use Rattle.spec_trees.specs.declared.tree.Tree.{Tree}
use Rattle.spec_trees.specs.declared.tree.Tree.TheOpen.{Tree-F}
use Rattle.spec_trees.specs.declared.tree.Tree.TheViews.{roll-Tree, out-Tree}
use Rattle.spec_trees.specs.declared.tree.Tree.TheFolds.{fold-Tree}
use Rattle.spec_trees.specs.declared.tree.Element.{Element}

-- ---- the parts of a node

-- the token or rule that it is a node of
abbrev pub symbol_of : Tree → ℕ
symbol_of t = let o = out-Tree t in o.symbol.0

-- the number of its production, none for a leaf and for a repetition
abbrev pub production_of : Tree → Option ℕ
production_of t = (out-Tree t).production

-- how many bytes stand before its own
abbrev pub pad_of : Tree → ℕ
pad_of t = (out-Tree t).pad

-- how many bytes are its own
abbrev pub size_of : Tree → ℕ
size_of t = (out-Tree t).size

-- how many bytes were examined to make it, from its first byte on
abbrev pub node_extent : Tree → ℕ
node_extent t = (out-Tree t).extent

-- the state below it, where one was fixed
abbrev pub state_of : Tree → Option ℕ
state_of t = (out-Tree t).state

-- whether no edit has reached it
abbrev pub is_settled : Tree → Bool
is_settled t = (out-Tree t).settled

-- whether the node stands as an extra
abbrev pub is_extra_node : Tree → Bool
is_extra_node t = (out-Tree t).extra

-- the elements of a repetition, none for all other nodes
abbrev pub elements_of : Tree → List Element
elements_of t = (out-Tree t).elements

-- its children in order, those of all elements of a repetition together
abbrev pub children_of : Tree → List Tree
children_of t = (out-Tree t).children

-- the dynamic total of a tree
abbrev pub total_of : Tree → ℤ
total_of t = (out-Tree t).dynamic

-- ---- sums

-- numbers, added up
abbrev pub sum_of : List ℕ → ℕ
sum_of [] = 0
sum_of (n ∷ ns) = n + sum_of ns

-- the greatest number, 0 where there is none
abbrev pub maximum : List ℕ → ℕ
maximum [] = 0
maximum (n ∷ ns) = max n (maximum ns)

-- signed numbers, added up
abbrev pub add_all : List ℤ → ℤ
add_all [] = pos 0
add_all (n ∷ ns) = n +ℤ add_all ns

-- the dynamic totals of trees, added up
abbrev pub all_totals : List Tree → ℤ
all_totals ts = add_all (map total_of ts)

-- the values of the productions that added elements, added up
abbrev pub all_values : List Element → ℤ
all_values es = add_all (map (λ e. e.dynamic) es)

-- how many bytes a node takes, its pad among them
abbrev pub span_of : Tree → ℕ
span_of t = pad_of t + size_of t

-- how many bytes nodes take, one after another
abbrev pub all_spans : List Tree → ℕ
all_spans ts = sum_of (map span_of ts)

-- the pad of the first node
abbrev pub first_pad : List Tree → ℕ
first_pad [] = 0
first_pad (t ∷ ts) = pad_of t

-- the count of a node over the counts of its children
abbrev pub nodes_step : Tree-F ℕ → ℕ
nodes_step t = 1 + (length t.elements + sum_of t.children)

-- how many nodes a tree has, and one more for each element of a repetition in it
abbrev pub node_count : Tree → ℕ
node_count = fold-Tree ℕ nodes_step

-- the same of several trees together
abbrev pub all_nodes : List Tree → ℕ
all_nodes ts = sum_of (map node_count ts)

-- the depth of a node over the depths of its children
abbrev pub depth_step : Tree-F ℕ → ℕ
depth_step t = 1 + maximum t.children

-- 1 for a node without children, else one more than the deepest child
abbrev pub tree_depth : Tree → ℕ
tree_depth = fold-Tree ℕ depth_step

-- the depth of the deepest, 0 where there is none
abbrev pub greatest_depth : List Tree → ℕ
greatest_depth ts = maximum (map tree_depth ts)

-- ---- the tree that outcomes compare

-- an element without its extent and marks of edits
abbrev pub bare_element : Element → Element
bare_element e = record e { extent = 0; settled = false }

-- a node over bare children, bare itself
abbrev pub bare_node : Tree-F Tree → Tree
bare_node t = roll-Tree (record t {
  extent = 0;
  state = None;
  settled = false;
  elements = map bare_element t.elements;
})

-- The tree without extents, states and marks of edits. Two nodes are the same node of a parse tree
-- where their bare trees are equal.
abbrev pub bare : Tree → Tree
bare = fold-Tree Tree bare_node
