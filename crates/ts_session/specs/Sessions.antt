-- What the files of a grammar and a script come to as a session.
use Rattle.std.specs.Prelude.{◌≡◌, ℕ, List, Some}
use Rattle.ts_base.specs.Bytes.{Bytes}
use Rattle.ts_core.specs.declared.flat.FlatGrammar.{FlatGrammar}
use Rattle.spec_output.specs.declared.status.Status.{Status}
use Rattle.spec_output.specs.declared.status.Status.TheVariants as status
use Rattle.ts_io.specs.Outside.{Files, file_at}
use Rattle.ts_query_syntax.specs.declared.read_query.ReadQuery.{ReadQuery}
use Rattle.ts_script.specs.Script.{IsScript}
use Rattle.ts_script.specs.declared.plan.Plan.{Plan}
use Rattle.ts_loading.specs.Loads.{AreQueries, HaveNoFaults, IsRegexAt}
use Rattle.ts_session.specs.Documents.{HaveFiles, AreOpened}
use Rattle.ts_session.specs.Grammars.{Builds}
use Rattle.ts_session.specs.Queries.{regex_line}
use Rattle.ts_session.specs.Refusals.{Refuses}

-- ---- files

-- Both files are there, the grammar has a parse table, and the script is one.
pub record IsAsked (files : Files) (grammar script : Bytes) (f : FlatGrammar) (plan : Plan)
    : Type 0 where
  pub grammar_file : Bytes
  pub grammar_is : file_at files grammar ≡ Some grammar_file
  pub script_file : Bytes
  pub script_is : file_at files script ≡ Some script_file
  pub builds : Builds grammar_file f
  pub is_script : IsScript script_file plan

-- ---- ready

-- The files come to a session: this grammar, this script, its queries, which were read, and the
-- first texts of its documents.
pub record IsLoaded (called : List Bytes) (files : Files) (grammar script : Bytes) (f : FlatGrammar)
    (plan : Plan) (queries : List ReadQuery) (openings : List Bytes) : Type 0 where
  pub asked : IsAsked files grammar script f plan
  pub are_queries : AreQueries f called plan.queries queries
  pub are_opened : AreOpened files plan.documents openings

-- Nothing stands in the way of a session. Whether the expressions in its queries are built is not
-- asked.
pub record IsClear (called : List Bytes) (files : Files) (grammar script : Bytes) : Type 0 where
  pub form : FlatGrammar
  pub plan : Plan
  pub asked : IsAsked files grammar script form plan
  pub no_faults : HaveNoFaults form called plan.queries
  pub openings : List Bytes
  pub are_opened : AreOpened files plan.documents openings

-- ---- refused for an expression

-- The line tells an expression that was refused, in the first query that has such a one. No query
-- before has a fault, and each document that is from a file has its file. Meanwhile the list of
-- expressions grew by those of the queries alone, in their order, and that one is the last.
pub record IsRegexRefusal (called : List Bytes) (files : Files) (grammar script : Bytes)
    (old new : List Bytes) (line : Bytes) : Type 0 where
  pub form : FlatGrammar
  pub plan : Plan
  pub asked : IsAsked files grammar script form plan
  pub have_files : HaveFiles files plan.documents
  pub number : ℕ
  pub place : ℕ
  pub refused : IsRegexAt form called plan.queries number place old new
  pub line_is : line ≡ regex_line number place

-- ---- refused

-- The status and the line of a refusal are those that the files decide; or they tell an expression
-- that was refused, and the count of refusals rose.
pub data IsRefusal (called : List Bytes) (files : Files) (grammar script : Bytes) (rose : Type 0)
    (old new : List Bytes) : Status → Bytes → Type 0 where
  of_files : (ends : Status) (line : Bytes) → Refuses called files grammar script ends line
      → IsRefusal called files grammar script rose old new ends line
  of_patterns : (line : Bytes) → rose
      → IsRegexRefusal called files grammar script old new line
      → IsRefusal called files grammar script rose old new status.Query line

-- ---- scripts

-- Some bytes are a script that asks for this: it is not so that none are.
abbrev pub IsSomeScript : Plan → Type 0
IsSomeScript plan = ((bytes : Bytes) → IsScript bytes plan → ⊥) → ⊥
