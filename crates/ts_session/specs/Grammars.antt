-- Which files have a parse table, and the line of a text that is too large.
use Rattle.std.specs.Prelude.{◌≤◌, length, codes}
use Rattle.serde_json.specs.Data.{string}
use Rattle.ts_base.specs.Bytes.{Bytes}
use Rattle.ts_core.specs.declared.flat.FlatGrammar.{FlatGrammar}
use Rattle.spec_output.specs.Faults.{at_line}
use Rattle.spec_output.specs.declared.status.Status.TheVariants as status
use Rattle.ts_front.specs.Grammars.{IsFormOf}
use Rattle.ts_front.specs.Tables.{HasTable}
use Rattle.ts_session.specs.Limits.{most_file_bytes}

-- the file is not too large, stands for this grammar, and the grammar has a parse table
pub record Builds (file : Bytes) (f : FlatGrammar) : Type 0 where
  pub small : length file ≤ most_file_bytes
  pub is_form : IsFormOf file f
  pub table : HasTable f

-- the text at the path is too large
abbrev pub size_line : Bytes → Bytes
size_line path = at_line (string path) (codes "text size") status.Text
