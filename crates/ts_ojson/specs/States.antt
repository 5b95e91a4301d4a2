-- What was read last within what is open, for private clauses and proofs.
use Rattle.std.specs.Prelude.{ℕ, List}
use Rattle.ts_base.specs.Bytes.{Bytes}
use Rattle.ts_ojson.specs.declared.escape.Escape.{Escape}
use Rattle.ts_ojson.specs.declared.part.Part.{Part}
use Rattle.ts_ojson.specs.declared.word.Word.{Word}
use Rattle.ts_ojson.specs.declared.value.OJson.{OJson}
use Rattle.ts_ojson.specs.Roles.{Role}

-- a value, an array's first item or an object's first name comes next; a value, a name or a part of
-- a token was read
pub data State : Type 0 where
  value : State
  first_item : State
  after : OJson → State
  first_name : State
  name : List (Bytes × OJson) → State
  colon : List (Bytes × OJson) → Bytes → State
  word : Word → ℕ → State
  number : Part → Bytes → State
  text : Escape → Bytes → Role → State
