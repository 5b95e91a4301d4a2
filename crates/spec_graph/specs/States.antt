-- The states to which lists of symbols lead, and what is needed of them.
use Rattle.std.specs.Prelude.{◌≡◌, ℕ, ◌<◌, List, [], ◌∷◌, Option, Some}
use Rattle.ts_core.specs.declared.flat.FlatGrammar.{FlatGrammar}
use Rattle.ts_core.specs.declared.flat.Production.{Production}
use Rattle.ts_core.specs.declared.flat.Step.{Step}
use Rattle.ts_core.specs.declared.symbol.Symbol.{Symbol}
use Rattle.spec_grammar.specs.Symbols.{production_at}
use Rattle.spec_tables.specs.Actions.{Move, Act}
use Rattle.spec_runs.specs.Configurations.{AreValidTokens}
use Rattle.spec_runs.specs.Moves.{StandsBefore}

-- where each state leads over each symbol, if it leads anywhere
abbrev pub Goto : Type 0
Goto = ℕ → ℕ → Option ℕ

-- The state to which a list of symbols leads from state 0, the last symbol first.
pub data LeadsTo (goto : Goto) : List ℕ → ℕ → Type 0 where
  at_first : LeadsTo goto [] 0
  by_goto : (read : List ℕ) (state symbol next : ℕ) → LeadsTo goto read state
      → goto state symbol ≡ Some next → LeadsTo goto (symbol ∷ read) next

-- two lists of symbols lead to one state
abbrev pub ShareState : Goto → List ℕ → List ℕ → Type 0
ShareState goto read other = (n : ℕ) × LeadsTo goto read n × LeadsTo goto other n

-- The states are those of the grammar: after all lists of symbols that lead to one of them the same
-- moves stay, and the last symbol is the same; only the empty list leads to state 0. Each has its
-- list of valid tokens, and leads over a symbol before which an item stands.
pub record AreStates (g : FlatGrammar) (goto : Goto) : Type 0 where
  pub acts : (read other : List ℕ) (token : ℕ) (move : Move) → ShareState goto read other
      → Act g read token move → Act g other token move
  pub begins : (read : List ℕ) → LeadsTo goto read 0 → read ≡ []
  pub enters : (read other : List ℕ) (x y : ℕ) → ShareState goto (x ∷ read) (y ∷ other) → x ≡ y
  pub valid : (read : List ℕ) (n : ℕ) → LeadsTo goto read n
      → (tokens : List Symbol) × AreValidTokens g read tokens
  pub leads : (read : List ℕ) (n symbol : ℕ) → LeadsTo goto read n → StandsBefore g read symbol
      → (next : ℕ) × (goto n symbol ≡ Some next)

-- Ranks of symbols, all below the bound: where a production has one step alone, its rule's rank is
-- below that step's symbol's.
pub record AreRanks (g : FlatGrammar) (rank : ℕ → ℕ) (most : ℕ) : Type 0 where
  pub below : (symbol : ℕ) → rank symbol < most
  pub single : (number left : ℕ) (p : Production) (step : Step)
      → production_at g number ≡ Some (left, p) → p.steps ≡ step ∷ []
      → rank left < rank step.symbol.0
