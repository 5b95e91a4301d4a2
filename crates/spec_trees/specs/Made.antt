-- The nodes that a parser makes: leaves, nodes of productions, flat nodes of repetitions, the
-- accepted root; and what an edit leaves of a node.
use Rattle.std.specs.Prelude.{◌≡◌, ℕ, zero, suc, ◌+◌, ◌-◌, ◌*◌, ◌<◌, ◌≤◌, ◌^◌, max, true, false, nat_lt, if◌then◌else◌, List, [], ◌∷◌, ◌++◌, length, map, take, drop, set, Option, Some, None, option_map, unwrap_or, All}
use Rattle.std.specs.Int.RustNames.{unsigned_abs}
use lib.IntN.{ℤ, pos, ◌+ℤ◌}
use Rattle.ts_core.specs.declared.flat.FlatGrammar.{FlatGrammar}
use Rattle.ts_core.specs.declared.flat.Production.{Production}
use Rattle.spec_grammar.specs.Symbols.{production_at, first_production, alternative_count, is_repetition}
use Rattle.spec_trees.specs.declared.tree.Tree.{Tree}
use Rattle.spec_trees.specs.declared.tree.Element.{Element}
use Rattle.spec_trees.specs.declared.tree.Stretch.{Stretch}
use Rattle.spec_trees.specs.declared.tree.Tree.TheViews.{roll-Tree, out-Tree}
use Rattle.spec_trees.specs.Trees.{symbol_of, production_of, node_extent, is_settled, is_extra_node, elements_of, children_of, total_of, all_totals, all_values, span_of, all_spans, first_pad, node_count, tree_depth, bare_element, bare}

-- ---- leaves

-- the node over a token, with this pad and size
abbrev pub leaf_of : ℕ → ℕ → ℕ → ℕ → Option ℕ → Tree
leaf_of token pad size extent state = roll-Tree (record {
  symbol = record { 0 = token };
  production = None;
  pad = pad;
  size = size;
  dynamic = pos 0;
  extent = extent;
  state = state;
  settled = true;
  extra = false;
  elements = [];
  children = [];
})

-- a node over a token
pub record IsLeaf (t : Tree) : Type 0 where
  pub production : production_of t ≡ None
  pub elements : elements_of t ≡ []

-- the same node, standing as an extra
abbrev pub as_extra : Tree → Tree
as_extra t = roll-Tree (record (out-Tree t) { extra = true })

-- ---- nodes over children

-- A node over its children: it begins where the first of them begins, and ends where the last ends.
abbrev pub node_over : ℕ → Option ℕ → ℤ → ℕ → Option ℕ → List Element → List Tree → Tree
node_over symbol production dynamic extent state elements children = roll-Tree (record {
  symbol = record { 0 = symbol };
  production = production;
  pad = first_pad children;
  size = all_spans children - first_pad children;
  dynamic = dynamic;
  extent = extent;
  state = state;
  settled = true;
  extra = false;
  elements = elements;
  children = children;
})

-- an element of this alternative with so many children, of a production with this value
abbrev pub element : ℕ → ℕ → ℤ → ℕ → Element
element alternative children value extent = record {
  alternative = alternative;
  children = children;
  dynamic = value;
  extent = extent;
  settled = true;
}

-- the node of a rule's production with this value
abbrev pub rule_node : ℕ → ℕ → ℤ → ℕ → Option ℕ → List Tree → Tree
rule_node symbol number value extent state children =
    node_over symbol (Some number) (value +ℤ all_totals children) extent state [] children

-- a repetition of one element, for which all was examined that was for the node
abbrev pub first_element : ℕ → ℕ → ℤ → ℕ → Option ℕ → List Tree → Tree
first_element symbol alternative value extent state children =
    node_over symbol None (value +ℤ all_totals children) extent state
    (element alternative (length children) value extent ∷ []) children

-- A repetition with one more element: the first child is the repetition so far, whose elements are
-- taken over, and the others are those of the new element. For this all was examined that was for
-- the node, from where the repetition so far ends.
abbrev pub next_element : ℕ → ℕ → ℤ → ℕ → Option ℕ → List Tree → Tree
next_element symbol alternative value extent state [] =
    node_over symbol None value extent state [] []
next_element symbol alternative value extent state (before ∷ more) =
    node_over symbol None (value +ℤ (total_of before +ℤ all_totals more)) extent state
    (elements_of before ++ element alternative (length more) value (extent - span_of before) ∷ [])
    (children_of before ++ more)

-- what the productions of a grammar make of their children
pub data Form : Type 0 where
  -- a node of a rule
  of_rule : Form
  -- a repetition of one element, of this alternative
  of_first : ℕ → Form
  -- a repetition and one more element, of this alternative
  of_next : ℕ → Form

-- A repetition's productions are those of its alternatives alone, and then those of the repetition
-- and one more alternative.
abbrev pub repetition_form : ℕ → ℕ → Form
repetition_form count place = if nat_lt place count then of_first place else of_next (place - count)

-- the form of the production of this number, whose rule has this symbol
abbrev pub form_of : FlatGrammar → ℕ → ℕ → Form
form_of g symbol number =
    if is_repetition g symbol
    then repetition_form (alternative_count g symbol) (number - first_production g symbol)
    else of_rule

-- the node of this form over these children, of a production with this value
abbrev pub made_by : Form → ℕ → ℕ → ℤ → ℕ → Option ℕ → List Tree → Tree
made_by of_rule symbol number value extent state children =
    rule_node symbol number value extent state children
made_by (of_first alternative) symbol number value extent state children =
    first_element symbol alternative value extent state children
made_by (of_next alternative) symbol number value extent state children =
    next_element symbol alternative value extent state children

-- the symbol of the rule of a production, by its number
abbrev pub left_of : FlatGrammar → ℕ → ℕ
left_of g number = unwrap_or (option_map (λ p. p.0) (production_at g number)) 0

-- the dynamic value of a production, by its number
abbrev pub value_of : FlatGrammar → ℕ → ℤ
value_of g number = unwrap_or (option_map (λ p. p.1.dynamic) (production_at g number)) (pos 0)

-- the node that a reduction by the production of this number makes of its children
abbrev pub reduced : FlatGrammar → ℕ → ℕ → Option ℕ → List Tree → Tree
reduced g number extent state children =
    made_by (form_of g (left_of g number) number) (left_of g number) number (value_of g number)
    extent state children

-- the root that acceptance gives: the extras before and after it are its children too
abbrev pub accepted : Tree → List Tree → List Tree → ℕ → Tree
accepted root before after extent =
    node_over (symbol_of root) (production_of root) (total_of root) extent None []
    ((before ++ children_of root) ++ after)

-- ---- which children may be reduced

-- the symbols of the children that fill steps
abbrev pub filling : List Tree → List ℕ
filling [] = []
filling (t ∷ ts) = if is_extra_node t then filling ts else symbol_of t ∷ filling ts

-- the symbols of a production's steps
abbrev pub step_symbols : Production → List ℕ
step_symbols production = map (λ step. step.symbol.0) production.steps

-- a list is empty, or begins with a node that fills a step
abbrev pub BeginsFilled : List Tree → Type 0
BeginsFilled [] = Unit {0}
BeginsFilled (t ∷ ts) = is_extra_node t ≡ false

-- a list is empty, or ends with a node that fills a step
abbrev pub EndsFilled : List Tree → Type 0
EndsFilled ts =
    (before : List Tree) (last : Tree) → ts ≡ before ++ last ∷ [] → is_extra_node last ≡ false

-- a production that lengthens a repetition has one as its first child
abbrev pub Lengthens : Form → List Tree → Type 0
Lengthens of_rule ts = Unit {0}
Lengthens (of_first alternative) ts = Unit {0}
Lengthens (of_next alternative) [] = ⊥
Lengthens (of_next alternative) (t ∷ ts) = 0 < length (elements_of t)

-- The children are the steps of the production of this number, in order, with extras between them
-- alone.
pub record FitsProduction (g : FlatGrammar) (number : ℕ) (children : List Tree) : Type 0 where
  pub left : ℕ
  pub production : Production
  pub at : production_at g number ≡ Some (left, production)
  pub filled : filling children ≡ step_symbols production
  pub begins : BeginsFilled children
  pub ends : EndsFilled children
  pub lengthens : Lengthens (form_of g left number) children

-- ---- which step a child fills

-- how many steps are filled by the children before each child, and none for an extra
abbrev pub fills_from : ℕ → List Tree → List (Option ℕ)
fills_from n [] = []
fills_from n (t ∷ ts) =
    if is_extra_node t then None ∷ fills_from n ts else Some n ∷ fills_from (suc n) ts

-- the same within each element of a repetition
abbrev pub fills_in : List Element → List Tree → List (Option ℕ)
fills_in [] ts = []
fills_in (e ∷ es) ts = fills_from 0 (take e.children ts) ++ fills_in es (drop e.children ts)

-- For each child the step that it fills, in the node's production or in the alternative of its
-- element, and none for an extra.
abbrev pub fills_by : List Element → List Tree → List (Option ℕ)
fills_by [] ts = fills_from 0 ts
fills_by (e ∷ es) ts = fills_in (e ∷ es) ts

-- the same of a node
abbrev pub fills_of : Tree → List (Option ℕ)
fills_of t = fills_by (elements_of t) (children_of t)

-- ---- what a node says of itself

-- the most bytes of a text
abbrev pub most_span : ℕ
most_span = 1048576

-- the greatest depth of a node
abbrev pub most_depth : ℕ
most_depth = 1000

-- how many nodes there are less than
abbrev pub node_limit : ℕ
node_limit = 2 ^ 31

-- Its nodes are few, it fits a text, its children fit it, and it is not too deep.
pub record IsSized (t : Tree) : Type 0 where
  pub few : node_count t < node_limit
  pub short : span_of t ≤ most_span
  pub within : all_spans (children_of t) ≤ span_of t
  pub shallow : tree_depth t ≤ most_depth

-- the examined ranges of nodes that stand one after another from a place on end by another
abbrev pub EndBy : ℕ → ℕ → List Tree → Type 0
EndBy end place [] = Unit {0}
EndBy end place (t ∷ ts) = (place + node_extent t ≤ end) × EndBy end (place + span_of t) ts

-- Where elements one after another end with all that was examined for them, counted from where the
-- first of them begins: no element's bytes and no element's examined range end later.
abbrev pub reach_of : List Element → List Tree → ℕ
reach_of [] ts = 0
reach_of (e ∷ es) ts =
    max e.extent (all_spans (take e.children ts) + reach_of es (drop e.children ts))

-- A settled node examined more than its own bytes, its children and elements are settled, and the
-- examined range of none of them ends past its own.
pub record IsSettledWell (t : Tree) : Type 0 where
  pub past : span_of t < node_extent t
  pub inner : All (λ child. is_settled child ≡ true) (children_of t)
  pub covers : EndBy (node_extent t) 0 (children_of t)
  pub elements : All (λ e. e.settled ≡ true) (elements_of t)
  pub reach : reach_of (elements_of t) (children_of t) ≤ node_extent t

-- An element over its children examined more than their bytes, they are settled, and the examined
-- range of none of them ends past its own.
pub record IsElementWell (e : Element) (ts : List Tree) : Type 0 where
  pub past : all_spans ts < e.extent
  pub inner : All (λ child. is_settled child ≡ true) ts
  pub covers : EndBy e.extent 0 ts

-- each settled element of a node, whether the node is settled or not
abbrev pub AreElementsWell : List Element → List Tree → Type 0
AreElementsWell [] ts = Unit {0}
AreElementsWell (e ∷ es) ts =
    (e.settled ≡ true → IsElementWell e (take e.children ts))
    × AreElementsWell es (drop e.children ts)

-- Each production in a tree has a value of 32 bits, and each is a node or an element of it.
abbrev pub IsModest : Tree → Type 0
IsModest t = unsigned_abs (total_of t) ≤ 2 ^ 31 * node_count t

-- how many children elements have together
abbrev pub children_count : List Element → ℕ
children_count [] = 0
children_count (e ∷ es) = e.children + children_count es

-- where there are elements, they have just these children
abbrev pub AreCounted : List Element → List Tree → Type 0
AreCounted [] ts = Unit {0}
AreCounted (e ∷ es) ts = children_count (e ∷ es) ≡ length ts

-- where there are elements, the total is that of their values and of the children
abbrev pub IsTotalOf : ℤ → List Element → List Tree → Type 0
IsTotalOf total [] ts = Unit {0}
IsTotalOf total (e ∷ es) ts = total ≡ all_values (e ∷ es) +ℤ all_totals ts

-- what a node keeps in its type
pub record IsNode (t : Tree) : Type 0 where
  pub sized : IsSized t
  pub counted : AreCounted (elements_of t) (children_of t)
  pub modest : IsModest t
  pub totalled : IsTotalOf (total_of t) (elements_of t) (children_of t)
  pub settled : is_settled t ≡ true → IsSettledWell t
  pub elements : AreElementsWell (elements_of t) (children_of t)

-- ---- what an edit leaves

-- children with those of these numbers replaced
abbrev pub replaced : List (ℕ × Tree) → List Tree → List Tree
replaced [] ts = ts
replaced (change ∷ changes) ts = replaced changes (set ts change.0 change.1)

-- an element that is not settled
abbrev pub loose_element : Element → Element
loose_element e = record e { settled = false }

-- elements of which the one of this number is not settled
abbrev pub loosened_at : ℕ → List Element → List Element
loosened_at k [] = []
loosened_at zero (e ∷ es) = loose_element e ∷ es
loosened_at (suc k) (e ∷ es) = e ∷ loosened_at k es

-- elements of which those of these numbers are not settled
abbrev pub loosened : List ℕ → List Element → List Element
loosened [] es = es
loosened (k ∷ ks) es = loosened ks (loosened_at k es)

-- the node with another pad and size, these children replaced, and not settled, nor these elements
abbrev pub remade : Tree → ℕ → ℕ → List (ℕ × Tree) → List ℕ → Tree
remade t pad size changes loose = roll-Tree (record (out-Tree t) {
  pad = pad;
  size = size;
  settled = false;
  elements = loosened loose (elements_of t);
  children = replaced changes (children_of t);
})

-- ---- a repetition that is lengthened by elements of another

-- the first elements of a repetition, so many, with their children
abbrev pub first_elements : ℕ → Stretch → Stretch
first_elements k s = record {
  elements = take k s.elements;
  children = take (children_count (take k s.elements)) s.children;
}

-- the elements of a repetition from the one of this number on, with their children
abbrev pub elements_from : ℕ → Stretch → Stretch
elements_from k s = record {
  elements = drop k s.elements;
  children = drop (children_count (take k s.elements)) s.children;
}

-- the elements of a node, with its children
abbrev pub stretch_in : Tree → Stretch
stretch_in t = record { elements = elements_of t; children = children_of t }

-- the elements of a node from this number on, up to another, with their children
abbrev pub elements_between : ℕ → ℕ → Tree → Stretch
elements_between from to t = elements_from from (first_elements to (stretch_in t))

-- a repetition with these elements behind its own
abbrev pub lengthened : Tree → Stretch → ℕ → Option ℕ → Tree
lengthened before more extent state =
    node_over (symbol_of before) None
    (total_of before +ℤ (all_values more.elements +ℤ all_totals more.children)) extent state
    (elements_of before ++ more.elements) (children_of before ++ more.children)

-- elements without extents and marks of edits, over bare children
abbrev pub bare_stretch : Stretch → Stretch
bare_stretch s = record {
  elements = map bare_element s.elements;
  children = map bare s.children;
}

-- ---- where an element begins

-- how many bytes the elements before the one of this number take
abbrev pub bytes_before : ℕ → Stretch → ℕ
bytes_before k s = all_spans (first_elements k s).children

-- how many elements are settled, from the first on
abbrev pub settled_first : List Element → ℕ
settled_first [] = 0
settled_first (e ∷ es) = if e.settled then suc (settled_first es) else 0
