-- The numbers of statuses, and which of them do not tell what the words and files come to.
use Rattle.std.specs.Prelude.{◌≡◌, ℕ, ◌⊎◌, List}
use Rattle.ts_base.specs.Bytes.{Bytes}
use Rattle.spec_output.specs.Status.{number_of}
use Rattle.spec_output.specs.declared.status.Status.{Status}
use Rattle.spec_output.specs.declared.status.Status.TheVariants.{ReadFault, WriteFault, OutOfMemory, Query}
use Rattle.ts_top.specs.Answer.{Schedule, AsksSession}

-- The number is that of a status.
abbrev pub IsStatus : ℕ → Type 0
IsStatus number = (status : Status) × (number ≡ number_of status)

-- A read failed, a write failed or memory ran out, and the answer was not given whole.
abbrev pub IsCutShort : ℕ → Type 0
IsCutShort number =
    (number ≡ number_of ReadFault)
    ⊎ ((number ≡ number_of WriteFault) ⊎ (number ≡ number_of OutOfMemory))

-- The words ask to run a script, an expression in a query of it was refused, and the count of
-- refusals rose.
pub record IsUnbuilt (words : List Bytes) (rose : Type 0) (number : ℕ) : Type 0 where
  pub number_is : number ≡ number_of Query
  pub grammar : Bytes
  pub script : Bytes
  pub schedule : Schedule
  pub asks : AsksSession words grammar script schedule
  pub risen : rose
