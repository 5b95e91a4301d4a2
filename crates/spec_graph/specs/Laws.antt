-- The laws of other crates that the laws here rest on.
use Rattle.std.specs.Prelude.{◌≡◌, ℕ, ◌+◌, ◌≤◌, List, [], ◌∷◌, ◌++◌, length, reverse, Some}
use Rattle.std.specs.List.{Contains}
use Rattle.ts_base.specs.Bytes.{Bytes}
use Rattle.ts_core.specs.declared.flat.FlatGrammar.{FlatGrammar}
use Rattle.ts_core.specs.declared.flat.Production.{Production}
use Rattle.ts_core.specs.declared.symbol.Symbol.{Symbol}
use Rattle.spec_grammar.specs.Symbols.{production_at}
use Rattle.spec_lexing.specs.Lexing.{Found, token, Lex}
use Rattle.spec_tables.specs.Actions.{Act, Reduces, reduce}
use Rattle.spec_tables.specs.Fit.{Fit}
use Rattle.spec_tables.specs.Items.{Item}
use Rattle.spec_trees.specs.Made.{step_symbols}
use Rattle.spec_runs.specs.Configurations.{HasMove}
use Rattle.spec_packing.specs.Laws.{RunLaws}

-- the laws of runs, and laws of lexing, of reductions over nothing and of moves on a token
pub record GraphLaws : Type 0 where
  pub runs : RunLaws
  pub nothing : (g : FlatGrammar) → Fit g → (read : List ℕ) (t number left : ℕ) (p : Production)
      → Act g read t (reduce number) → production_at g number ≡ Some (left, p)
      → p.steps ≡ [] → read ≡ []
  pub one_answer : (g : FlatGrammar) (valid : List Symbol) (rest : Bytes) (f h : Found)
      → Lex g valid rest f → Lex g valid rest h → f ≡ h
  pub fewer_tokens : (g : FlatGrammar) (valid fewer : List Symbol) (rest : Bytes) (s : Symbol)
      (pad size : ℕ)
      → ((t : Symbol) → Contains fewer t → Contains valid t) → Contains fewer s
      → Lex g valid rest (token s pad size) → Lex g fewer rest (token s pad size)
  pub within : (g : FlatGrammar) (valid : List Symbol) (rest : Bytes) (s : Symbol)
      (pad size : ℕ)
      → Lex g valid rest (token s pad size) → pad + size ≤ length rest
  pub some_move : (g : FlatGrammar) (read : List ℕ) (t : ℕ) (i : Item) → Reduces g read t i
      → (HasMove g read t → ⊥) → ⊥
  pub no_new_tokens : (g : FlatGrammar) → Fit g → (number left t : ℕ) (p : Production)
      (earlier : List ℕ) → production_at g number ≡ Some (left, p)
      → HasMove g (left ∷ earlier) t
      → Reduces g (reverse (step_symbols p) ++ earlier) t
      (record { line = Some number; dot = length p.steps; token = t })
