-- The first texts of the documents of a script, which stand in the script or in files.
use Rattle.std.specs.Prelude.{◌≡◌, ℕ, ◌<◌, List, length, slice_get, Some, None}
use Rattle.ts_base.specs.Bytes.{Bytes}
use Rattle.spec_output.specs.Faults.{broken_line}
use Rattle.ts_io.specs.Outside.{Files, file_at}
use Rattle.ts_text.specs.Text.{IsText, BreaksAt}
use Rattle.ts_script.specs.declared.plan.Source.{Source}
use Rattle.ts_script.specs.declared.plan.Source.TheVariants as source
use Rattle.ts_session.specs.Grammars.{size_line}
use Rattle.ts_session.specs.Limits.{most_text_bytes}

-- the first text of the document of this number is the file at the path
abbrev pub IsFrom : List Source → ℕ → Bytes → Type 0
IsFrom documents number path = slice_get documents number ≡ Some (source.Path path)

-- there is a file at the path
abbrev pub IsFile : Files → Bytes → Type 0
IsFile files path = (bytes : Bytes) × (file_at files path ≡ Some bytes)

-- each document that is from a file has its file
abbrev pub HaveFiles : Files → List Source → Type 0
HaveFiles files documents = (number : ℕ) (path : Bytes) → IsFrom documents number path
    → IsFile files path

-- the path of the first document whose file is not there
pub record IsMissing (files : Files) (documents : List Source) (path : Bytes) : Type 0 where
  pub number : ℕ
  pub from : IsFrom documents number path
  pub absent : file_at files path ≡ None
  pub before : (k : ℕ) (other : Bytes) → k < number → IsFrom documents k other
      → IsFile files other

-- the line says why the file at the path is no text
pub data IsTextRefusal (path bytes : Bytes) : Bytes → Type 0 where
  too_large : most_text_bytes < length bytes → IsTextRefusal path bytes (size_line path)
  broken : (place : ℕ) → BreaksAt bytes place → IsTextRefusal path bytes (broken_line path place)

-- the line of the first document whose file is no text
pub record IsRefused (files : Files) (documents : List Source) (line : Bytes) : Type 0 where
  pub number : ℕ
  pub path : Bytes
  pub bytes : Bytes
  pub from : IsFrom documents number path
  pub file_is : file_at files path ≡ Some bytes
  pub refusal : IsTextRefusal path bytes line
  pub before : (k : ℕ) (other text : Bytes) → k < number → IsFrom documents k other
      → file_at files other ≡ Some text → IsText text

-- the file at the path is this text
pub record IsTextAt (files : Files) (path text : Bytes) : Type 0 where
  pub file_is : file_at files path ≡ Some text
  pub is_text : IsText text

-- The documents have these first texts: each its text in the script, or its file, which is a text.
pub record AreOpened (files : Files) (documents : List Source) (openings : List Bytes)
    : Type 0 where
  pub count : length openings ≡ length documents
  pub inline : (number : ℕ) (text : Bytes)
      → slice_get documents number ≡ Some (source.Inline text)
      → slice_get openings number ≡ Some text
  pub from_files : (number : ℕ) (path : Bytes) → IsFrom documents number path
      → (text : Bytes) × IsTextAt files path text × (slice_get openings number ≡ Some text)
