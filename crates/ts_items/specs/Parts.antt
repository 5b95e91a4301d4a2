-- Sets of items as parts: each a production, a dot, and the place of a set of tokens.
use Rattle.std.specs.Prelude.{◌≡◌, ℕ, zero, suc, List, slice_get, Some, None}
use Rattle.std.specs.List.{Contains}
use Rattle.spec_tables.specs.Items.{Line, Item}
use Rattle.ts_bits.specs.declared.set.BitSet.{BitSet}
use Rattle.ts_bits.specs.Members.{Has}
use Rattle.ts_items.specs.declared.part.Part.{Part}

-- the production of a line: line 0 is the start item's, and then come the productions
abbrev pub line_of : ℕ → Line
line_of zero = None
line_of (suc number) = Some number

-- the item has the production and the dot of the part, and a token of its set
pub record IsOf (tokens : List BitSet) (q : Part) (i : Item) : Type 0 where
  pub line : i.line ≡ line_of q.line
  pub dot : i.dot ≡ q.dot
  pub set : BitSet
  pub at : slice_get tokens q.tokens ≡ Some set
  pub has : Has set i.token

-- the items for which the parts stand
pub record In (tokens : List BitSet) (parts : List Part) (i : Item) : Type 0 where
  pub part : Part
  pub there : Contains parts part
  pub is : IsOf tokens part i
