-- What the parts of a query are as items: groups without a quantifier stand in place of their
-- parts, and anchors are marks on the items behind them.
use Rattle.std.specs.Prelude.{ℕ, Bool, true, false, not, ◌&&◌, List, [], ◌∷◌, map, Option, Some, None, if◌then◌else◌}
use Rattle.std.specs.List.{flat_map}
use Rattle.ts_query_tree.specs.declared.tree.Written.{Written}
use Rattle.ts_query_tree.specs.declared.tree.Mark.{Mark}
use Rattle.ts_query_tree.specs.declared.tree.Quantity.{Quantity as Times}
use Rattle.ts_query_tree.specs.declared.tree.Quantity.TheVariants as times
use Rattle.ts_query_tree.specs.declared.tree.Head.{Head}
use Rattle.ts_query_tree.specs.declared.tree.Head.TheVariants as head
use Rattle.ts_query_tree.specs.declared.tree.Part.{Part}
use Rattle.ts_query_tree.specs.declared.tree.Part.TheOpen.{Part-F}
use Rattle.ts_query_tree.specs.declared.tree.Part.TheFolds.{fold-Part}
use Rattle.ts_query_tree.specs.Trees.{is_nil}
use Rattle.ts_query_tree.specs.Words.{is_wild}
use Rattle.ts_query_names.specs.Numbers.{Names, kind_number, capture_number, field_number}
use Rattle.ts_query_syntax.specs.declared.read_query.Item.{Item}
use Rattle.ts_query_syntax.specs.declared.read_query.Item.TheViews.{roll-Item}
use Rattle.ts_query_syntax.specs.declared.read_query.Quantity.{Quantity}
use Rattle.ts_query_syntax.specs.declared.read_query.Quantity.TheVariants.{One, Optional, Many, Several}
use Rattle.ts_query_syntax.specs.declared.read_query.Test.{Test}
use Rattle.ts_query_syntax.specs.declared.read_query.Test.TheVariants.{Any, Named, Kind, Choice, Round}

-- ---- what stands in a list of siblings

-- What parts give to the list in which they stand: an anchor, an item, which is told whether an
-- anchor stands before it, or a field that no child of the node round the list has.
pub data Piece : Type 0 where
  anchor : Piece
  one : (Bool → Item) → Piece
  lacks : ℕ → Piece

-- the items, each with whether an anchor stands between it and the item before; whether one stands
-- before the pieces is told
abbrev pub items_from : Bool → List Piece → List Item
items_from tied [] = []
items_from tied (anchor ∷ rest) = items_from true rest
items_from tied (one item ∷ rest) = item tied ∷ items_from false rest
items_from tied (lacks field ∷ rest) = items_from tied rest

-- whether an anchor stands behind the last item
abbrev pub ends_tied : Bool → List Piece → Bool
ends_tied tied [] = tied
ends_tied tied (anchor ∷ rest) = ends_tied true rest
ends_tied tied (one item ∷ rest) = ends_tied false rest
ends_tied tied (lacks field ∷ rest) = ends_tied tied rest

-- the fields that no child of the node round the list has
abbrev pub lacking : List Piece → List ℕ
lacking [] = []
lacking (anchor ∷ rest) = lacking rest
lacking (one item ∷ rest) = lacking rest
lacking (lacks field ∷ rest) = field ∷ lacking rest

-- the items, where no anchor stands before the pieces
abbrev pub items_of : List Piece → List Item
items_of pieces = items_from false pieces

-- an anchor with no item at all asks nothing
abbrev pub is_closed : List Piece → Bool
is_closed pieces = ends_tied false pieces && not (is_nil (items_of pieces))

-- ---- one item

-- the quantity of a quantifier that is written
abbrev pub times_of : Times → Quantity
times_of times.Optional = Optional
times_of times.Many = Many
times_of times.Several = Several

-- the quantity of an item: one, where it has no quantifier
abbrev pub quantity_of : Option Mark → Quantity
quantity_of None = One
quantity_of (Some mark) = times_of mark.quantity

-- the kind `_` is any named node
abbrev pub node_test : Names → Written → Test
node_test names kind =
    if is_wild kind.text then Named else Kind (kind_number names kind.text true)

-- what a head asks of a node, with kinds by their numbers
abbrev pub test_of : Names → Head → Test
test_of names (head.Any at) = Any
test_of names (head.Text text) = Kind (kind_number names text.text false)
test_of names (head.Node kind) = node_test names kind
test_of names head.Group = Round
test_of names head.Choice = Choice

-- the number of a field, if there is one
abbrev pub field_of : Names → Option Written → Option ℕ
field_of names None = None
field_of names (Some name) = Some (field_number names name.text)

-- the numbers of captures, in their order
abbrev pub captures_of : Names → List Written → List ℕ
captures_of names = map (λ (name : Written). capture_number names name.text)

-- the item of a head whose brackets hold these pieces
abbrev pub item_over : Names → Option Written → Head → List Piece → Option Mark → List Written
    → Bool → Item
item_over names field head pieces mark captures tied = roll-Item (record {
  tied = tied;
  quantity = quantity_of mark;
  field = field_of names field;
  captures = captures_of names captures;
  test = test_of names head;
  without = lacking pieces;
  closed = is_closed pieces;
  parts = items_of pieces;
})

-- a group without a quantifier gives its pieces
abbrev pub is_spliced : Head → Option Mark → Bool
is_spliced head.Group None = true
is_spliced head.Group (Some mark) = false
is_spliced (head.Any at) mark = false
is_spliced (head.Text text) mark = false
is_spliced (head.Node kind) mark = false
is_spliced head.Choice mark = false

-- the pieces of several parts, one part after another
abbrev pub joined_pieces : List (List Piece) → List Piece
joined_pieces = flat_map (λ (pieces : List Piece). pieces)

-- what a part gives, from what the parts in its bracket give
abbrev pub piece_step : Names → Part-F (List Piece) → List Piece
piece_step names (Part-F.Item field head parts mark captures) =
    if is_spliced head mark then joined_pieces parts
    else one (item_over names field head (joined_pieces parts) mark captures) ∷ []
piece_step names Part-F.Anchor = anchor ∷ []
piece_step names (Part-F.Without name) = lacks (field_number names name.text) ∷ []
piece_step names (Part-F.Predicate name operands) = []

-- what a part gives; predicates are asked of the whole pattern
abbrev pub pieces : Names → Part → List Piece
pieces names = fold-Part (List Piece) (piece_step names)

-- the same of several parts
abbrev pub pieces_in : Names → List Part → List Piece
pieces_in names parts = flat_map (pieces names) parts
