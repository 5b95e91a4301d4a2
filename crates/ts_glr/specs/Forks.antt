-- What following all ways to read a text comes to, from a stack on at which several moves stay. It
-- serves private clauses and proofs alone.
use Rattle.std.specs.Prelude.{ℕ, ◌<◌, ◌≤◌, List, length, Option}
use Rattle.ts_base.specs.Bytes.{Bytes}
use Rattle.spec_runs.specs.Outcomes.{Fresh}
use Rattle.spec_forced.specs.Sound.{States}
use Rattle.spec_crossing.specs.Resting.{PackedRests}
use Rattle.ts_table.specs.declared.view.ParseTable.{ParseTable}
use Rattle.ts_gss.specs.declared.layer.Layer.{Layer}
use Rattle.ts_gss.specs.Stacks.{IsOneStack}
use Rattle.ts_steps.specs.declared.head.StackHead.{StackHead}
use Rattle.ts_steps.specs.LiveHeads.{config_of, packed_of}
use Rattle.ts_steps.specs.Heads.{AreStatesOf, IsOwnHead, StandOnHead}
use Rattle.ts_crossing.specs.declared.leaving.Left.{Left}
use Rattle.ts_glr.specs.declared.outcome.Outcome.{Outcome}
use Rattle.ts_glr.specs.declared.crossing.Crossed.{Crossed}
use Rattle.ts_glr.specs.declared.crossing.Crossed.TheVariants.{One, Told}
use Rattle.ts_glr.specs.Outcomes.{value_of_outcome, IsTreeOf, IsOwnOutcome, IsSoundOutcome}
use Rattle.ts_glr.specs.Turns.{turn_weight}

-- One stack is left, before any tree is accepted. All that is known of runs and of nodes that stand
-- goes back to what is so of the first stack.
pub record LeavesOne (t : ParseTable) (text : Bytes) (first : List (List Layer))
    (before stuck : Option ℕ) (h : StackHead) (l : Left) : Type 0 where
  pub own : IsOwnHead t (length text) l.stacks l.head
  pub one : IsOneStack l.stacks l.head.top
  pub far : h.place ≤ l.head.place
  pub lighter : turn_weight t.grammar (length text) (config_of l.stacks l.head)
      < turn_weight t.grammar (length text) (config_of first h)
  pub rests : PackedRests t.grammar text before (packed_of first h)
      → PackedRests t.grammar text stuck (packed_of l.stacks l.head)
  pub stand : (states : States) → AreStatesOf t states → StandOnHead t states text first h
      → StandOnHead t states text l.stacks l.head

-- all are followed to their ends
pub record EndsAll (t : ParseTable) (text : Bytes) (first : List (List Layer)) (before : Option ℕ)
    (h : StackHead) (out : Outcome) : Type 0 where
  pub form : IsTreeOf t.grammar out
  pub own : IsOwnOutcome t out
  pub fresh : PackedRests t.grammar text before (packed_of first h)
      → Fresh t.grammar text (value_of_outcome out)
  pub sound : (states : States) → AreStatesOf t states → StandOnHead t states text first h
      → IsSoundOutcome t states text out

-- what following all of them comes to: one stack that is left, or the outcome
abbrev pub ComesTo : ParseTable → Bytes → List (List Layer) → Option ℕ → StackHead → Crossed
    → Type 0
ComesTo t text first before h (One l stuck) = LeavesOne t text first before stuck h l
ComesTo t text first before h (Told out) = EndsAll t text first before h out
