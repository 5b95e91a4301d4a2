-- Versions of a text.
use Rattle.std.specs.Prelude.{◌≡◌, ℕ, ◌+◌, ◌≤◌, length}
use Rattle.ts_base.specs.Bytes.{Bytes}
use Rattle.ts_text.specs.Edit.{apply_of}
use Rattle.ts_text.specs.Text.{most_bytes}
use Rattle.ts_text.specs.declared.edit.Edit.{Edit}
use Rattle.ts_table.specs.declared.view.ParseTable.{ParseTable}
use Rattle.spec_runs.specs.Outcomes.{Fresh}
use Rattle.ts_glr.specs.Outcomes.{value_of_outcome, IsTreeOf}
use Rattle.ts_glr.specs.declared.outcome.Outcome.{Outcome}
use Rattle.ts_docs.specs.declared.parsed.ParsedText.{ParsedText}
use Rattle.ts_docs.specs.declared.parsed.Drafted.{Drafted}

-- a version of these parts
abbrev pub parsed_text : ℕ → Bytes → Outcome → ParseTable → ParsedText
parsed_text number text outcome table =
    record { number = number; text = text; outcome = outcome; table = table }

-- a draft of these parts
abbrev pub drafted : ℕ → ℕ → ParsedText → Drafted
drafted client step version = record { client = client; step = step; version = version }

-- what holds of each version
pub record IsFreshVersion (v : ParsedText) : Type 0 where
  -- its outcome is what parsing its whole text from the start comes to
  pub fresh : Fresh v.table.grammar v.text (value_of_outcome v.outcome)
  -- where that is a tree, it is one of the grammar
  pub form : IsTreeOf v.table.grammar v.outcome
  -- it is no longer than a text may be
  pub within : length v.text ≤ most_bytes

-- the version of this number of the text, parsed by the table
pub record IsTextOf (table : ParseTable) (number : ℕ) (text : Bytes) (v : ParsedText)
    : Type 0 where
  pub number_is : v.number ≡ number
  pub text_is : v.text ≡ text
  pub table_is : v.table ≡ table

-- the version after an edit of the base, which this step of the client asked for
pub record Drafts (base : ParsedText) (client step : ℕ) (edit : Edit) (d : Drafted) : Type 0 where
  pub client_is : d.client ≡ client
  pub step_is : d.step ≡ step
  pub number_is : d.version.number ≡ base.number + 1
  pub text_is : d.version.text ≡ apply_of base.text edit
  pub table_is : d.version.table ≡ base.table

-- a draft may be added to a journal with this opening where one table parsed both
abbrev pub IsOfTable : ParsedText → Drafted → Type 0
IsOfTable opening d = d.version.table ≡ opening.table
