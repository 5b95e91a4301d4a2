-- What the reader knows between two signs, for private clauses.
use Rattle.std.specs.Prelude.{◌≡◌, ◌≤◌, ◌<◌, ℕ, List, length, Option, Some, None}
use Rattle.ts_base.specs.Bytes.{Bytes}
use Rattle.ts_query_tree.specs.declared.sign.Sign.{Sign}
use Rattle.ts_query_tree.specs.declared.tree.Part.{Part as Value}
use Rattle.ts_query_tree.specs.declared.state.Outcome.{Outcome}
use Rattle.ts_query_tree.specs.declared.state.Outcome.TheVariants as outcome
use Rattle.ts_query_tree.specs.declared.state.State.{State}
use Rattle.ts_query_tree.specs.declared.state.Turn.{Turn}
use Rattle.ts_query_tree.specs.declared.state.Turn.TheVariants as turn
use Rattle.ts_query_tree.specs.Reads.{Signs, StayShallow, IsOutcome}
use Rattle.ts_query_tree.specs.Machine.{run_from, start}

-- some signs lead to the place, and these brackets are open behind them
pub record IsState (w : Bytes) (s : State) : Type 0 where
  pub signs : List Sign
  pub lead : Signs w 0 signs s.at
  pub run : run_from start signs ≡ Some (s.level, s.outer)
  pub shallow : StayShallow 0 signs
  pub within : s.at ≤ length w

-- what a text is that ends at a place, by what is whole there
abbrev pub ended : ℕ → Option (List Value) → Outcome
ended at None = outcome.Syntax at
ended at (Some xs) = outcome.Whole xs

-- what one sign leads to: a state at a later place, or what the text is
abbrev pub IsTurn : Bytes → State → Turn → Type 0
IsTurn w s (turn.Goes t) = IsState w t × (s.at < t.at)
IsTurn w s (turn.Stops o) = IsOutcome w o
