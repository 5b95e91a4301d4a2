-- What stands in a list of siblings after some pieces, as the code has it.
use Rattle.std.specs.Prelude.{ℕ, Bool, true, false, not, ◌&&◌, List, [], ◌∷◌, ◌++◌, Option}
use Rattle.ts_query_tree.specs.declared.tree.Written.{Written}
use Rattle.ts_query_tree.specs.declared.tree.Mark.{Mark}
use Rattle.ts_query_tree.specs.declared.tree.Head.{Head}
use Rattle.ts_query_tree.specs.Trees.{is_nil}
use Rattle.ts_query_names.specs.Numbers.{Names}
use Rattle.ts_query_syntax.specs.declared.read_query.Item.{Item}
use Rattle.ts_query_syntax.specs.declared.level.Level.{Level}
use Rattle.ts_query_syntax.specs.declared.read_query.Item.TheViews.{roll-Item}
use Rattle.ts_query_syntax.specs.Items.{Piece, anchor, one, lacks, quantity_of, field_of, captures_of, test_of}

-- a list of siblings in which nothing stands yet
abbrev pub empty_level : Level
empty_level = record { items = []; tied = false; without = [] }

-- the list with an anchor behind what stands there
abbrev pub tied_level : Level → Level
tied_level l = record { items = l.items; tied = true; without = l.without }

-- the list with one more item
abbrev pub level_with : Level → Item → Level
level_with l item = record { items = l.items ++ item ∷ []; tied = false; without = l.without }

-- the list with one more field that no child of the node round it has
abbrev pub level_lacking : Level → ℕ → Level
level_lacking l field = record { items = l.items; tied = l.tied; without = l.without ++ field ∷ [] }

-- what stands there after some more pieces
abbrev pub after : Level → List Piece → Level
after l [] = l
after l (anchor ∷ rest) = after (tied_level l) rest
after l (one item ∷ rest) = after (level_with l (item l.tied)) rest
after l (lacks field ∷ rest) = after (level_lacking l field) rest

-- an item over what stands in its brackets
abbrev pub item_of : Names → Option Written → Head → Level → Option Mark → List Written → Bool
    → Item
item_of names field head inner mark captures tied = roll-Item (record {
  tied = tied;
  quantity = quantity_of mark;
  field = field_of names field;
  captures = captures_of names captures;
  test = test_of names head;
  without = inner.without;
  closed = inner.tied && not (is_nil inner.items);
  parts = inner.items;
})
