-- What is known of the parts of a session. It serves private clauses and proofs alone.
use Rattle.std.specs.Prelude.{◌≡◌, ◌<◌, ◌^◌, List, All, length, Some}
use Rattle.ts_base.specs.Bytes.{Bytes}
use Rattle.ts_core.specs.declared.flat.FlatGrammar.{FlatGrammar}
use Rattle.spec_output.specs.declared.status.Status.TheVariants as status
use Rattle.ts_io.specs.Outside.{Files}
use Rattle.ts_query_syntax.specs.declared.read_query.ReadQuery.{ReadQuery}
use Rattle.ts_replies.specs.Faults.{script_fault_line}
use Rattle.ts_script.specs.Script.{IsScript, IsFault}
use Rattle.ts_script.specs.declared.fault.SFault.{SFault}
use Rattle.ts_script.specs.declared.plan.Plan.{Plan as AnyPlan}
use Rattle.ts_loading.specs.Loads.{AreQueries, GrewByEach}
use Rattle.ts_session.specs.Documents.{AreOpened}
use Rattle.ts_session.specs.Refusals.{RefusesPlan}
use Rattle.ts_session.specs.Replays.{IsJudged}
use Rattle.ts_session.specs.Sessions.{IsLoaded, IsRefusal}
use Rattle.ts_session.specs.declared.judging.Asked.{Asked}
use Rattle.ts_session.specs.declared.judging.Asked.TheVariants as asked
use Rattle.ts_session.specs.declared.judging.Parts.{Parts}
use Rattle.ts_session.specs.declared.judging.Parts.TheVariants as parts

-- the bytes of a script ask for this, or the line tells their fault
abbrev pub AsksFor : Bytes → Asked → Type 0
AsksFor script (asked.Plan plan) = IsScript script plan
AsksFor script (asked.Refused a) = (fault : SFault) × IsFault script fault
    × (script_fault_line fault ≡ Some a.bytes.items)

-- some bytes are the script, or the refusal has a script's status
abbrev pub HasScript : Asked → Type 0
HasScript (asked.Plan plan) = (script : Bytes) × IsScript script plan
HasScript (asked.Refused a) = a.status ≡ status.Script

-- the files come to these parts, or this is their refusal
abbrev pub IsParts : List Bytes → Files → Bytes → Bytes → FlatGrammar → AnyPlan → Type 0
    → List Bytes → List Bytes → Parts → Type 0
IsParts called files grammar script f plan rose old new (parts.All queries texts) =
    IsLoaded called files grammar script f plan queries texts.items
IsParts called files grammar script f plan rose old new (parts.Refused a) =
    IsRefusal called files grammar script rose old new a.status a.bytes.items

-- queries that were read, and as many texts as documents; or a refusal with a status that the files
-- decide
abbrev pub AreParts : List Bytes → FlatGrammar → AnyPlan → List Bytes → List Bytes → Parts → Type 0
AreParts called f plan old new (parts.All queries texts) = AreQueries f called plan.queries queries
    × GrewByEach f called plan.queries old new
    × All (λ (q : ReadQuery). length q.patterns < 2 ^ 32) queries
    × (length texts.items ≡ length plan.documents)
AreParts called f plan old new (parts.Refused a) = IsJudged a.status

-- the documents have these first texts, or what is asked for is refused
abbrev pub HasFirstTexts : List Bytes → Files → FlatGrammar → AnyPlan → Parts → Type 0
HasFirstTexts called files f plan (parts.All queries texts) =
    AreOpened files plan.documents texts.items
HasFirstTexts called files f plan (parts.Refused a) =
    RefusesPlan called files f plan a.status a.bytes.items

-- these queries, and as many texts as documents; or a refusal of a text
abbrev pub HasQueries : AnyPlan → List ReadQuery → Parts → Type 0
HasQueries plan queries (parts.All all texts) =
    (all ≡ queries) × (length texts.items ≡ length plan.documents)
HasQueries plan queries (parts.Refused a) = a.status ≡ status.Text
