-- What a read answers.
use Rattle.std.specs.Prelude.{◌≡◌, ℕ, ◌<◌, ◌≤◌, length, Option, Some, None}
use Rattle.ts_base.specs.Bytes.{Bytes}
use Rattle.ts_io.specs.Outside.{Files, file_at}
use Rattle.ts_io.specs.declared.folder.Found.{Found}
use Rattle.ts_io.specs.declared.folder.Found.TheVariants as found

-- Bytes are no more than were asked for.
abbrev pub KeepsLimit : ℕ → Found → Type 0
KeepsLimit limit (found.Bytes bytes) = length bytes.items ≤ limit
KeepsLimit limit found.Absent = Unit {0}
KeepsLimit limit found.Over = Unit {0}

-- The answer is right of the file at the path, if there is one.
abbrev pub AnswersFor : Option Bytes → ℕ → Found → Type 0
AnswersFor file limit (found.Bytes bytes) = file ≡ Some bytes.items
AnswersFor file limit found.Absent = file ≡ None
AnswersFor None limit found.Over = ⊥
AnswersFor (Some bytes) limit found.Over = limit < length bytes

-- The same, where the files are told.
abbrev pub ReadsFrom : Option Files → Bytes → ℕ → Found → Type 0
ReadsFrom None path limit answer = Unit {0}
ReadsFrom (Some files) path limit answer = AnswersFor (file_at files path) limit answer

-- The answer is right of the bytes that a reader has left, where it tells them.
abbrev pub ReadsAll : Option Bytes → ℕ → Found → Type 0
ReadsAll None limit answer = Unit {0}
ReadsAll (Some bytes) limit answer = AnswersFor (Some bytes) limit answer
