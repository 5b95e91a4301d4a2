-- What the reader knows between two signs, for private clauses.
use Rattle.std.specs.Prelude.{◌≡◌, ◌≤◌, ◌<◌, Bool, false, List, length, map, Option, Some}
use Rattle.ts_pattern.specs.declared.level.Level.{Level}
use Rattle.ts_pattern.specs.declared.sign.Sign.{Sign}
use Rattle.ts_pattern.specs.declared.state.State.{State}
use Rattle.ts_pattern.specs.declared.state.Turn.{Turn}
use Rattle.ts_pattern.specs.declared.state.Turn.TheVariants as turn
use Rattle.ts_pattern.specs.Characters.{Text}
use Rattle.ts_pattern.specs.Trees.{Token, Pattern}
use Rattle.ts_pattern.specs.Reads.{Means, Tokens, IsOutcome, ends_quantified}
use Rattle.ts_pattern.specs.Machine.{step, run_from, start, level_of, Follows}

-- what is kept of the open patterns after a sign
abbrev pub IsTakenBy : Bool → Sign → Level → List Level → Option Level → List Level → Type 0
IsTakenBy ignore_case sign level outer after round =
    (t : Token) × Means ignore_case sign t
    × ((p : Pattern) (k : List Pattern) → level ≡ level_of p → outer ≡ map level_of k
    → Follows (step p k t) after round)

-- some tokens lead to the place, and these patterns are open behind them
pub record IsState (ignore_case : Bool) (w : Text) (s : State) : Type 0 where
  pub before : List Token
  pub inner : Pattern
  pub round : List Pattern
  pub tokens : Tokens ignore_case w 0 before s.at
  pub run : run_from start before ≡ Some (inner, round)
  pub level : s.level ≡ level_of inner
  pub outer : s.outer ≡ map level_of round
  pub quantified : s.quantified ≡ ends_quantified false before
  pub within : s.at ≤ length w

-- a turn goes on to a later place, or stops with what the text is
abbrev pub IsTurn : Bool → Text → State → Turn → Type 0
IsTurn ignore_case w s (turn.Goes t) = IsState ignore_case w t × (s.at < t.at)
IsTurn ignore_case w s (turn.Stops o) = IsOutcome ignore_case w o
