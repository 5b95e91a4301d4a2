-- What a string is, for private clauses and proofs.
use Rattle.std.specs.Prelude.{ℕ, List}
use Rattle.ts_base.specs.Bytes.{Bytes}
use Rattle.ts_ojson.specs.declared.value.OJson.{OJson}

-- a value, or a name whose quote opens at this place in an object with these members so far
pub data Role : Type 0 where
  value : Role
  name : ℕ → List (Bytes × OJson) → Role
