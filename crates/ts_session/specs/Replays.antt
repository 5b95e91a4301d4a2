-- What a session prints, and what the replay and the run of a script come to.
use Rattle.std.specs.Prelude.{◌≡◌, ℕ, ◌⊎◌, List}
use Rattle.ts_base.specs.Bytes.{Bytes}
use Rattle.ts_core.specs.declared.flat.FlatGrammar.{FlatGrammar}
use Rattle.spec_output.specs.declared.status.Status.{Status}
use Rattle.spec_output.specs.declared.status.Status.TheVariants as status
use Rattle.spec_history.specs.Histories.{History}
use Rattle.spec_history.specs.Legal.{Legal}
use Rattle.spec_history.specs.Orders.{InOrder}
use Rattle.spec_history.specs.Printed.{IsPrinted}
use Rattle.spec_history.specs.Queries.{Finds}
use Rattle.ts_io.specs.Outside.{Files}
use Rattle.ts_predicate.specs.Predicates.{AnswersOf}
use Rattle.ts_query_syntax.specs.declared.read_query.ReadQuery.{ReadQuery}
use Rattle.ts_script.specs.declared.plan.Plan.{Plan}
use Rattle.ts_session.specs.Refusals.{Refuses}
use Rattle.ts_session.specs.Sessions.{IsLoaded}

-- ---- what is printed

-- The bytes are the print of a run of the script by the grammar, on documents with these first
-- texts. The run is lawful: each version has the outcome of parsing its whole text, and each reply
-- is the right one. A step that asks queries is told what these queries find, by which texts a host
-- accepts.
pub record IsRun (f : FlatGrammar) (plan : Plan) (queries : List ReadQuery)
    (host : ℕ → Bytes → Type 0) (openings : List Bytes) (bytes : Bytes) : Type 0 where
  pub history : History
  pub grammar_is : history.grammar ≡ f
  pub plan_is : history.plan ≡ plan
  pub openings_are : history.openings ≡ openings
  pub legal : Legal (Finds f queries host) history
  pub printed : IsPrinted history bytes

-- the same of a run in the order
pub record IsReplay (f : FlatGrammar) (plan : Plan) (queries : List ReadQuery)
    (host : ℕ → Bytes → Type 0) (openings : List Bytes) (order : List ℕ) (bytes : Bytes)
    : Type 0 where
  pub history : History
  pub grammar_is : history.grammar ≡ f
  pub plan_is : history.plan ≡ plan
  pub openings_are : history.openings ≡ openings
  pub legal : Legal (Finds f queries host) history
  pub in_order : InOrder order history
  pub printed : IsPrinted history bytes

-- ---- the answer

-- a status that the files decide
abbrev pub IsJudged : Status → Type 0
IsJudged ends = (ends ≡ status.Done) ⊎ ((ends ≡ status.Grammar) ⊎ ((ends ≡ status.Query)
    ⊎ ((ends ≡ status.Script) ⊎ ((ends ≡ status.Absent) ⊎ (ends ≡ status.Text)))))

-- What the files at the paths of a grammar and a script come to where their session is run in some
-- way: they are refused, or bytes are printed as that way has it.
pub data Plays (Prints : FlatGrammar → Plan → List ReadQuery → List Bytes → Bytes → Type 0)
    (called : List Bytes) (files : Files) (grammar script : Bytes) : Status → Bytes → Type 0 where
  refused : (ends : Status) (line : Bytes) → Refuses called files grammar script ends line
      → Plays Prints called files grammar script ends line
  printed : (f : FlatGrammar) (plan : Plan) (queries : List ReadQuery) (openings : List Bytes)
      (bytes : Bytes) → IsLoaded called files grammar script f plan queries openings
      → Prints f plan queries openings bytes
      → Plays Prints called files grammar script status.Done bytes

-- What they come to where the steps are run in an order. The host's predicates have these names and
-- accept these texts.
abbrev pub Replays : List Bytes → (ℕ → Bytes → Type 0) → Files → Bytes → Bytes → List ℕ → Status
    → Bytes → Type 0
Replays called accepts files grammar script order =
    Plays (λ (f : FlatGrammar) (plan : Plan) (queries : List ReadQuery) (openings : List Bytes)
    (bytes : Bytes). IsReplay f plan queries (AnswersOf called accepts) openings order bytes)
    called files grammar script

-- the same where the steps are run in any order, and the clients at once
abbrev pub Runs : List Bytes → (ℕ → Bytes → Type 0) → Files → Bytes → Bytes → Status → Bytes
    → Type 0
Runs called accepts files grammar script =
    Plays (λ (f : FlatGrammar) (plan : Plan) (queries : List ReadQuery) (openings : List Bytes)
    (bytes : Bytes). IsRun f plan queries (AnswersOf called accepts) openings bytes)
    called files grammar script
