-- What is so of the nodes that are made, and when children can be reduced, a root accepted and a
-- node remade.
use Rattle.std.specs.Prelude.{◌≡◌, ℕ, ◌+◌, ◌*◌, ◌<◌, ◌≤◌, ◌^◌, max, true, false, List, [], ◌∷◌, ◌++◌, length, Option, All}
use Rattle.std.specs.Int.RustNames.{unsigned_abs}
use Rattle.ts_core.specs.declared.flat.FlatGrammar.{FlatGrammar}
use Rattle.spec_trees.specs.declared.tree.Tree.{Tree}
use Rattle.spec_trees.specs.declared.tree.Stretch.{Stretch}
use Rattle.spec_trees.specs.Trees.{symbol_of, node_extent, state_of, elements_of, children_of, is_settled, is_extra_node, node_count, all_nodes, all_totals, all_values, span_of, all_spans, tree_depth, greatest_depth}
use Rattle.spec_trees.specs.Made.{Form, of_rule, of_first, of_next, FitsProduction, EndBy, IsNode, AreElementsWell, children_count, reach_of, reduced, loosened, replaced, most_span, most_depth, node_limit}
use Rattle.spec_trees.specs.Reducible.{HasSmallValue}

-- a settled node of this symbol that is no extra, with this extent and state
pub record IsMadeWith (symbol extent : ℕ) (state : Option ℕ) (t : Tree) : Type 0 where
  pub symbol_is : symbol_of t ≡ symbol
  pub extent_is : node_extent t ≡ extent
  pub state_is : state_of t ≡ state
  pub settled : is_settled t ≡ true
  pub plain : is_extra_node t ≡ false

-- The depth of a node of this form over these children. A repetition with one more element is as
-- deep as it was before, or as its new element makes it.
abbrev pub depth_by : Form → List Tree → ℕ
depth_by of_rule ts = 1 + greatest_depth ts
depth_by (of_first alternative) ts = 1 + greatest_depth ts
depth_by (of_next alternative) [] = 1
depth_by (of_next alternative) (before ∷ more) = max (tree_depth before) (1 + greatest_depth more)

-- The children are those of the production, whose value has 32 bits. They are settled nodes, few
-- and short, and the node over them is not too deep; so many bytes were examined that they are past
-- all of them and past what each of them examined.
pub record CanBeReduced
    (g : FlatGrammar) (number extent : ℕ) (state : Option ℕ) (children : List Tree) : Type 0 where
  pub fits : FitsProduction g number children
  pub value : HasSmallValue g number
  pub nodes : All IsNode children
  pub settled : All (λ child. is_settled child ≡ true) children
  pub few : 2 + all_nodes children < node_limit
  pub short : all_spans children ≤ most_span
  pub shallow : tree_depth (reduced g number extent state children) ≤ most_depth
  pub past : all_spans children < extent
  pub covers : EndBy extent 0 children

-- The root is a settled node without elements. It and the settled extras round it are few, short
-- and not too deep; so many bytes were examined that they are past all of them and past what each
-- of them examined.
pub record IsAcceptable (root : Tree) (before after : List Tree) (extent : ℕ) : Type 0 where
  pub node : IsNode root
  pub whole : is_settled root ≡ true
  pub plain : length (elements_of root) ≡ 0
  pub before_settled : All (λ child. is_settled child ≡ true) before
  pub after_settled : All (λ child. is_settled child ≡ true) after
  pub few : all_nodes before + node_count root + all_nodes after < node_limit
  pub short : all_spans before + span_of root + all_spans after ≤ most_span
  pub before_shallow : 1 + greatest_depth before ≤ most_depth
  pub after_shallow : 1 + greatest_depth after ≤ most_depth
  pub past : all_spans before + span_of root + all_spans after < extent
  pub covers : EndBy extent 0 (before ++ root ∷ after)

-- elements, of which there is one at least, have just these children, and their values and totals
-- are those of so many productions
pub record IsSection (s : Stretch) : Type 0 where
  pub some : 0 < length s.elements
  pub own : children_count s.elements ≡ length s.children
  pub small : unsigned_abs (all_values s.elements) ≤ 2 ^ 31 * length s.elements
  pub modest : unsigned_abs (all_totals s.children) ≤ 2 ^ 31 * all_nodes s.children

-- Elements that were cut out of a node: the settled ones are so over their children, and they are
-- no more and no deeper than the node has them.
pub record IsPartOf (t : Tree) (s : Stretch) : Type 0 where
  pub well : AreElementsWell s.elements s.children
  pub few : length s.elements + all_nodes s.children < node_count t
  pub short : all_spans s.children ≤ span_of t
  pub shallow : 1 + greatest_depth s.children ≤ tree_depth t

-- A settled repetition and settled elements that are put behind its own: they are few and short,
-- and not too deep; so many bytes were examined that they are past what was examined for the
-- repetition and for each element.
pub record CanBeLengthened (before : Tree) (more : Stretch) (extent : ℕ) : Type 0 where
  pub node : IsNode before
  pub settled : is_settled before ≡ true
  pub repetition : 0 < length (elements_of before)
  pub section : IsSection more
  pub all_settled : All (λ e. e.settled ≡ true) more.elements
  pub well : AreElementsWell more.elements more.children
  pub few : node_count before + (length more.elements + all_nodes more.children) < node_limit
  pub short : span_of before + all_spans more.children ≤ most_span
  pub shallow : 1 + greatest_depth more.children ≤ most_depth
  pub past : node_extent before ≤ extent
  pub reach : span_of before + reach_of more.elements more.children ≤ extent

-- A node with other children in the place of some: they have as many nodes and the total of those
-- before, are no deeper, and have room in the new pad and size, which fit a text. The elements that
-- are still settled are so over them.
pub record CanBeRemade
    (t : Tree) (pad size : ℕ) (changes : List (ℕ × Tree)) (loose : List ℕ) : Type 0 where
  pub node : IsNode t
  pub short : pad + size ≤ most_span
  pub within : all_spans (replaced changes (children_of t)) ≤ pad + size
  pub nodes : all_nodes (replaced changes (children_of t)) ≡ all_nodes (children_of t)
  pub shallow : greatest_depth (replaced changes (children_of t)) ≤ greatest_depth (children_of t)
  pub totals : all_totals (replaced changes (children_of t)) ≡ all_totals (children_of t)
  pub elements : AreElementsWell (loosened loose (elements_of t)) (replaced changes (children_of t))
