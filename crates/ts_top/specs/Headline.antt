-- The headline: what is printed where a script was run.
use Rattle.std.specs.Prelude.{◌≡◌, ℕ, List}
use Rattle.ts_base.specs.Bytes.{Bytes}
use Rattle.ts_core.specs.declared.flat.FlatGrammar.{FlatGrammar}
use Rattle.ts_io.specs.Outside.{Files}
use Rattle.ts_predicate.specs.Predicates.{AnswersOf}
use Rattle.ts_query_syntax.specs.declared.read_query.ReadQuery.{ReadQuery}
use Rattle.ts_script.specs.declared.plan.Plan.{Plan}
use Rattle.spec_history.specs.Histories.{History}
use Rattle.spec_history.specs.Legal.{Legal}
use Rattle.spec_history.specs.Orders.{InOrder}
use Rattle.spec_history.specs.Printed.{IsPrinted}
use Rattle.spec_history.specs.Queries.{Finds}
use Rattle.ts_session.specs.Sessions.{IsLoaded}
use Rattle.ts_top.specs.Answer.{Schedule, in_order, at_once}

-- the steps came in the order of the schedule, or in any order where the clients ran at once
abbrev pub IsOnSchedule : Schedule → History → Type 0
IsOnSchedule (in_order order) h = InOrder order h
IsOnSchedule at_once h = Unit {0}

-- The bytes are the print of a lawful run of the script at one path by the grammar at another.
pub record IsLawfulRun (called : List Bytes) (accepts : ℕ → Bytes → Type 0) (files : Files)
    (grammar script : Bytes) (schedule : Schedule) (bytes : Bytes) : Type 0 where
  -- the grammar, the script, its queries and the first texts of its documents are of the files
  pub form : FlatGrammar
  pub plan : Plan
  pub queries : List ReadQuery
  pub openings : List Bytes
  pub loaded : IsLoaded called files grammar script form plan queries openings
  -- the journals and the replies are those of such a run
  pub history : History
  pub grammar_is : history.grammar ≡ form
  pub plan_is : history.plan ≡ plan
  pub openings_are : history.openings ≡ openings
  -- Each reply is right for its step: what queries find is exactly their matches in the version
  -- that the client holds, which is never older than one that it was shown; an edit is refused
  -- only where a newer version is shown, where its range or its size is out, or where memory runs
  -- out.
  pub legal : Legal (Finds form queries (AnswersOf called accepts)) history
  pub on_schedule : IsOnSchedule schedule history
  -- the line of each published version tells the outcome of freshly parsing its whole text
  pub printed : IsPrinted history bytes
