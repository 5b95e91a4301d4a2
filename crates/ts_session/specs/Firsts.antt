-- What is known of the files of documents once they were read, and once they were taken for texts.
-- It serves private clauses and proofs alone.
use Rattle.std.specs.Prelude.{◌≡◌, ℕ, ◌<◌, List, length, slice_get, Option, Some, None, string_bytes}
use Rattle.ts_base.specs.Bytes.{Bytes}
use Rattle.spec_output.specs.Faults.{absent_line}
use Rattle.ts_io.specs.Outside.{Files, file_at}
use Rattle.ts_io.specs.Read.{AnswersFor}
use Rattle.ts_io.specs.declared.folder.Found.{Found}
use Rattle.ts_text.specs.Text.{BreaksAt}
use Rattle.ts_text.specs.declared.text.TextFault.{TextFault}
use Rattle.ts_text.specs.declared.text.TextFault.TheVariants as text
use Rattle.ts_script.specs.declared.plan.Source.{Source}
use Rattle.ts_script.specs.declared.plan.Source.TheVariants as source
use Rattle.ts_session.specs.Documents.{IsMissing, IsTextRefusal, IsRefused, IsTextAt, AreOpened}
use Rattle.ts_session.specs.Limits.{most_text_bytes}
use Rattle.ts_session.specs.declared.first.First.{First}
use Rattle.ts_session.specs.declared.first.First.TheVariants.{InScript, Bytes as Read, Over}
use Rattle.ts_session.specs.declared.first.Firsts.{Firsts}
use Rattle.ts_session.specs.declared.first.Firsts.TheVariants as firsts
use Rattle.ts_session.specs.declared.first.Looked.{Looked}
use Rattle.ts_session.specs.declared.first.Looked.TheVariants as looked
use Rattle.ts_session.specs.declared.openings.Opening.{Opening}
use Rattle.ts_session.specs.declared.openings.Opening.TheVariants as opening
use Rattle.ts_session.specs.declared.openings.Openings.{Openings}
use Rattle.ts_session.specs.declared.openings.Openings.TheVariants as openings

-- ---- reading

-- there is no file at the path, or this was read of it
abbrev pub IsFoundAt : Files → Bytes → ℕ → Option Found → Type 0
IsFoundAt files path limit None = file_at files path ≡ None
IsFoundAt files path limit (Some found) =
    (bytes : Bytes) × (file_at files path ≡ Some bytes) × AnswersFor (Some bytes) limit found

-- the document is in the script, or this was read of its file
abbrev pub IsFirst : Files → Source → First → Type 0
IsFirst files (source.Inline t) InScript = Unit {0}
IsFirst files (source.Inline t) (Read bytes) = ⊥
IsFirst files (source.Inline t) Over = ⊥
IsFirst files (source.Path path) InScript = ⊥
IsFirst files (source.Path path) (Read bytes) = file_at files path ≡ Some bytes.items
IsFirst files (source.Path path) Over =
    (bytes : Bytes) × (file_at files path ≡ Some bytes) × (most_text_bytes < length bytes)

-- the same, or there is no file
abbrev pub IsLookedAt : Files → Source → Looked → Type 0
IsLookedAt files from (looked.There first) = IsFirst files from first
IsLookedAt files from (looked.Missing line) =
    (path : Bytes) × (from ≡ source.Path path) × (file_at files path ≡ None)
    × (string_bytes line ≡ absent_line path)

-- this was read of each document
abbrev pub AreFirsts : Files → List Source → List First → Type 0
AreFirsts files documents all = (number : ℕ) (from : Source) (first : First)
    → slice_get documents number ≡ Some from → slice_get all number ≡ Some first
    → IsFirst files from first

-- the same, or the first file that is not there
abbrev pub AreLookedAt : Files → List Source → Firsts → Type 0
AreLookedAt files documents (firsts.All all) = AreFirsts files documents all.items
AreLookedAt files documents (firsts.Missing line) =
    (path : Bytes) × IsMissing files documents path × (string_bytes line ≡ absent_line path)

-- something was read of each document
abbrev pub HaveLengthOf : List Source → Firsts → Type 0
HaveLengthOf documents (firsts.All all) = length all.items ≡ length documents
HaveLengthOf documents (firsts.Missing line) = Unit {0}

-- ---- texts

-- what a refused text says of the bytes
abbrev pub IsTextFault : Bytes → TextFault → Type 0
IsTextFault bytes (text.Size n) = most_text_bytes < length bytes
IsTextFault bytes (text.Utf8 place) = BreaksAt bytes place
IsTextFault bytes text.Memory = Unit {0}

-- the document has this first text
abbrev pub Opens : Files → Source → Bytes → Type 0
Opens files (source.Inline t) first = first ≡ t
Opens files (source.Path path) first = IsTextAt files path first

-- the line says why the document has no first text
pub record HasNoText (files : Files) (from : Source) (line : Bytes) : Type 0 where
  pub path : Bytes
  pub bytes : Bytes
  pub is_from : from ≡ source.Path path
  pub file_is : file_at files path ≡ Some bytes
  pub refusal : IsTextRefusal path bytes line

-- the first text of the document, or why it has none
abbrev pub IsOpening : Files → Source → Opening → Type 0
IsOpening files from (opening.Text first) = Opens files from first
IsOpening files from (opening.Refused line) = HasNoText files from (string_bytes line)

-- the first texts of the documents, or why the first that has none has none
abbrev pub AreOpenings : Files → List Source → Openings → Type 0
AreOpenings files documents (openings.All texts) = AreOpened files documents texts.items
AreOpenings files documents (openings.Refused line) =
    IsRefused files documents (string_bytes line)

-- each document has a first text
abbrev pub HaveTextsFor : List Source → Openings → Type 0
HaveTextsFor documents (openings.All texts) = length texts.items ≡ length documents
HaveTextsFor documents (openings.Refused line) = Unit {0}
