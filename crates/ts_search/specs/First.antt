-- The first item of a pattern.
use Rattle.std.specs.Prelude.{◌≡◌, List, Some, slice_get, false}
use Rattle.ts_query_syntax.specs.declared.read_query.Item.{Item}
use Rattle.ts_search.specs.Ways.{slot_of}

-- an item is the first of some, and takes some sibling wherever these embed
pub record Leads (i : Item) (is : List Item) : Type 0 where
  pub is_first : slice_get is 0 ≡ Some i
  pub wanted : (slot_of i).optional ≡ false
