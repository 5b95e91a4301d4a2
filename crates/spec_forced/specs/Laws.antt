-- The laws of other crates that the laws here rest on.
use Rattle.std.specs.Prelude.{◌≡◌, ℕ, List, ◌∷◌, ◌++◌, length, reverse, map, Option, Some, None}
use Rattle.std.specs.List.{Contains}
use Rattle.ts_base.specs.Bytes.{Bytes}
use Rattle.ts_core.specs.declared.flat.FlatGrammar.{FlatGrammar}
use Rattle.ts_core.specs.declared.flat.Production.{Production}
use Rattle.ts_core.specs.declared.symbol.Symbol.{Symbol}
use Rattle.spec_grammar.specs.Symbols.{production_at}
use Rattle.spec_lexing.specs.Lexing.{Found, token, Lex}
use Rattle.spec_tables.specs.Actions.{Act, shift, reduce, Reduces}
use Rattle.spec_tables.specs.Fit.{Fit}
use Rattle.spec_tables.specs.Items.{Item, IsToken}
use Rattle.spec_trees.specs.declared.tree.Tree.{Tree}
use Rattle.spec_trees.specs.Trees.{bare}
use Rattle.spec_trees.specs.Made.{as_extra, reduced, form_of, of_next, step_symbols}
use Rattle.spec_runs.specs.BareTrees.{KeepsAll}
use Rattle.spec_runs.specs.Configurations.{Configuration, NextIs, IsReduction, HasMove}
use Rattle.spec_runs.specs.Moves.{StandsBefore, EndsWithProduction, RepeatsItself}

-- laws of bare trees, of the moves that stay, of lexing and of reductions
pub record ForcedLaws : Type 0 where
  pub keeps : (t : Tree) → KeepsAll t
  pub once : (t : Tree) → bare (bare t) ≡ bare t
  pub extra : (t : Tree) → bare (as_extra t) ≡ as_extra (bare t)
  pub reduced_bare : (g : FlatGrammar) (number extent : ℕ) (state : Option ℕ) (ts : List Tree)
      → bare (reduced g number extent state ts) ≡ bare (reduced g number 0 None (map bare ts))
  pub shifts : (g : FlatGrammar) (read : List ℕ) (t : ℕ) → Act g read t shift
      → IsToken g t × StandsBefore g read t
  pub reduces : (g : FlatGrammar) (read : List ℕ) (t number : ℕ) → Act g read t (reduce number)
      → EndsWithProduction g read number
  pub repeats : (g : FlatGrammar) → Fit g → (number left alternative : ℕ) (p : Production)
      → production_at g number ≡ Some (left, p) → form_of g left number ≡ of_next alternative
      → RepeatsItself left p
  pub one_sight : (g : FlatGrammar) (text : Bytes) (c : Configuration) (f h : Found)
      → NextIs g text c f → NextIs g text c h → f ≡ h
  pub one_lexing : (g : FlatGrammar) (valid : List Symbol) (rest : Bytes) (f h : Found)
      → Lex g valid rest f → Lex g valid rest h → f ≡ h
  pub one_reduction : (g : FlatGrammar) (number : ℕ) (stack : List Tree) (n m : Tree)
      (after other : List Tree)
      → IsReduction g number stack n after → IsReduction g number stack m other
      → (n ≡ m) × (after ≡ other)
  pub fewer_tokens : (g : FlatGrammar) (valid fewer : List Symbol) (rest : Bytes) (s : Symbol)
      (pad size : ℕ)
      → ((t : Symbol) → Contains fewer t → Contains valid t) → Contains fewer s
      → Lex g valid rest (token s pad size) → Lex g fewer rest (token s pad size)
  pub some_move_stays : (g : FlatGrammar) (read : List ℕ) (t : ℕ) (i : Item)
      → Reduces g read t i → (HasMove g read t → ⊥) → ⊥
  pub no_new_tokens : (g : FlatGrammar) → Fit g → (number left t : ℕ) (p : Production)
      (earlier : List ℕ)
      → production_at g number ≡ Some (left, p) → HasMove g (left ∷ earlier) t
      → Reduces g (reverse (step_symbols p) ++ earlier) t
      (record { line = Some number; dot = length p.steps; token = t })
