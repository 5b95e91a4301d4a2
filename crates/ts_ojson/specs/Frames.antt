-- What is open around the place that is read, for private clauses and proofs.
use Rattle.std.specs.Prelude.{List}
use Rattle.ts_base.specs.Bytes.{Bytes}
use Rattle.ts_ojson.specs.declared.value.OJson.{OJson}

-- an array with its items so far, or an object with its members so far and the name whose value is
-- read
pub data Frame : Type 0 where
  array : List OJson → Frame
  object : List (Bytes × OJson) → Bytes → Frame
