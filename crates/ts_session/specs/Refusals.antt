-- Why files are refused as a session, with which status and which line. All this is decided by the
-- files and by the names of a host's predicates.
use Rattle.std.specs.Prelude.{◌≡◌, ℕ, ◌<◌, ◌≤◌, List, length, Some, None}
use Rattle.ts_base.specs.Bytes.{Bytes}
use Rattle.ts_core.specs.declared.flat.FlatGrammar.{FlatGrammar}
use Rattle.ts_core.specs.declared.limits.Limited.TheVariants.{File}
use Rattle.spec_output.specs.Faults.{absent_line}
use Rattle.spec_output.specs.GrammarFaults.{limit_line}
use Rattle.spec_output.specs.declared.status.Status.{Status}
use Rattle.spec_output.specs.declared.status.Status.TheVariants as status
use Rattle.ts_io.specs.Outside.{Files, file_at}
use Rattle.ts_front.specs.Compiled.{IsRefusalLine}
use Rattle.ts_query_syntax.specs.declared.fault.QueryFault.{QueryFault}
use Rattle.ts_replies.specs.Faults.{script_fault_line}
use Rattle.ts_script.specs.Script.{IsScript, IsFault}
use Rattle.ts_script.specs.declared.fault.SFault.{SFault}
use Rattle.ts_script.specs.declared.plan.Plan.{Plan}
use Rattle.ts_loading.specs.Loads.{HaveNoFaults, IsFirstFault}
use Rattle.ts_session.specs.Documents.{HaveFiles, IsMissing, IsRefused}
use Rattle.ts_session.specs.Grammars.{Builds}
use Rattle.ts_session.specs.Limits.{most_file_bytes}
use Rattle.ts_session.specs.Queries.{query_line}

-- What a script asks for is refused by a grammar: the file of a document is not there; or all are
-- there, and a query has a fault; or none has, and a file is no text. Each time it is the first.
pub data RefusesPlan (called : List Bytes) (files : Files) (f : FlatGrammar) (plan : Plan)
    : Status → Bytes → Type 0 where
  missing : (path : Bytes) → IsMissing files plan.documents path
      → RefusesPlan called files f plan status.Absent (absent_line path)
  no_query : (number : ℕ) (fault : QueryFault) (line : Bytes) → HaveFiles files plan.documents
      → IsFirstFault f called plan.queries number fault → query_line number fault ≡ Some line
      → RefusesPlan called files f plan status.Query line
  no_text : (line : Bytes) → HaveFiles files plan.documents
      → HaveNoFaults f called plan.queries → IsRefused files plan.documents line
      → RefusesPlan called files f plan status.Text line

-- the bytes of a script are refused by a grammar: they are none, or what it asks for is refused
pub data RefusesScript (called : List Bytes) (files : Files) (f : FlatGrammar) (script : Bytes)
    : Status → Bytes → Type 0 where
  no_script : (fault : SFault) (line : Bytes) → IsFault script fault
      → script_fault_line fault ≡ Some line
      → RefusesScript called files f script status.Script line
  of_plan : (plan : Plan) (ends : Status) (line : Bytes) → IsScript script plan
      → RefusesPlan called files f plan ends line → RefusesScript called files f script ends line

-- The bytes of a grammar file and of a script are refused. The grammar is judged first.
pub data RefusesBytes (called : List Bytes) (files : Files) (grammar script : Bytes)
    : Status → Bytes → Type 0 where
  large_grammar : most_file_bytes < length grammar
      → RefusesBytes called files grammar script status.Grammar (limit_line File)
  no_grammar : (line : Bytes) → length grammar ≤ most_file_bytes → IsRefusalLine grammar line
      → RefusesBytes called files grammar script status.Grammar line
  of_script : (f : FlatGrammar) (ends : Status) (line : Bytes) → Builds grammar f
      → RefusesScript called files f script ends line
      → RefusesBytes called files grammar script ends line

-- The files at the paths of a grammar and of a script are refused. Both are read first, the
-- grammar's before the script's.
pub data Refuses (called : List Bytes) (files : Files) (grammar script : Bytes)
    : Status → Bytes → Type 0 where
  grammar_absent : file_at files grammar ≡ None
      → Refuses called files grammar script status.Absent (absent_line grammar)
  script_absent : (g : Bytes) → file_at files grammar ≡ Some g → file_at files script ≡ None
      → Refuses called files grammar script status.Absent (absent_line script)
  of_bytes : (g s : Bytes) (ends : Status) (line : Bytes) → file_at files grammar ≡ Some g
      → file_at files script ≡ Some s → RefusesBytes called files g s ends line
      → Refuses called files grammar script ends line
