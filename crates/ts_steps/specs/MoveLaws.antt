-- The laws of other crates that the parser's proofs rest on. It serves private clauses and proofs
-- alone.
use Rattle.std.specs.Prelude.{◌≡◌, ℕ, ◌+◌, ◌≤◌, ◌<◌, false, List, [], ◌∷◌, length, map, Option, Some, None}
use Rattle.ts_base.specs.Bytes.{Bytes}
use Rattle.ts_core.specs.declared.flat.FlatGrammar.{FlatGrammar}
use Rattle.ts_core.specs.declared.flat.Production.{Production}
use Rattle.ts_core.specs.declared.symbol.Symbol.{Symbol}
use Rattle.spec_grammar.specs.Symbols.{start_symbol, production_at, is_repetition}
use Rattle.spec_lexing.specs.Lexing.{Found, token, Lex}
use Rattle.spec_lexing.specs.Matching.{BeginsSpelled}
use Rattle.spec_lexing.specs.Seen.{Seen}
use Rattle.spec_tables.specs.Actions.{Act, shift, reduce, accept}
use Rattle.spec_tables.specs.Fit.{Fit}
use Rattle.spec_tables.specs.Items.{end_token, IsToken}
use Rattle.spec_trees.specs.declared.tree.Tree.{Tree}
use Rattle.spec_trees.specs.Trees.{bare}
use Rattle.spec_trees.specs.Made.{as_extra, reduced, accepted, form_of, of_next}
use Rattle.spec_runs.specs.BareTrees.{KeepsAll}
use Rattle.spec_runs.specs.Configurations.{Configuration, NextIs, IsReduction}
use Rattle.spec_runs.specs.Moves.{StandsBefore, EndsWithProduction, RepeatsItself, IsUnused}

-- For proofs alone: laws of bare trees, of moves and reductions, and of what a lexer sees.
pub record Laws : Type 0 where
  pub keeps : (t : Tree) → KeepsAll t
  pub once : (t : Tree) → bare (bare t) ≡ bare t
  pub extra : (t : Tree) → bare (as_extra t) ≡ as_extra (bare t)
  pub reduced_bare : (g : FlatGrammar) (number extent : ℕ) (state : Option ℕ) (ts : List Tree)
      → bare (reduced g number extent state ts) ≡ bare (reduced g number 0 None (map bare ts))
  pub accepted_bare : (root : Tree) (before after : List Tree) (extent : ℕ)
      → bare (accepted root before after extent)
      ≡ bare (accepted (bare root) (map bare before) (map bare after) 0)
  pub one_sight : (g : FlatGrammar) (text : Bytes) (c : Configuration) (f h : Found)
      → NextIs g text c f → NextIs g text c h → f ≡ h
  pub one_reduction : (g : FlatGrammar) (number : ℕ) (stack : List Tree) (n m : Tree)
      (after other : List Tree)
      → IsReduction g number stack n after → IsReduction g number stack m other
      → (n ≡ m) × (after ≡ other)
  pub shifts : (g : FlatGrammar) (read : List ℕ) (t : ℕ) → Act g read t shift
      → IsToken g t × StandsBefore g read t
  pub reduces : (g : FlatGrammar) (read : List ℕ) (t number : ℕ) → Act g read t (reduce number)
      → EndsWithProduction g read number
  pub nothing : (g : FlatGrammar) → Fit g → (read : List ℕ) (t number left : ℕ) (p : Production)
      → Act g read t (reduce number) → production_at g number ≡ Some (left, p)
      → p.steps ≡ [] → read ≡ []
  pub accepts : (g : FlatGrammar) (read : List ℕ) (t : ℕ) → Act g read t accept
      → (t ≡ end_token) × (read ≡ start_symbol g ∷ [])
  pub empty_start : (g : FlatGrammar) → Fit g → (number left : ℕ) (p : Production)
      → production_at g number ≡ Some (left, p) → p.steps ≡ [] → left ≡ start_symbol g
  pub unused : (g : FlatGrammar) → Fit g → (number left : ℕ) (p : Production)
      → production_at g number ≡ Some (left, p) → p.steps ≡ [] → IsUnused g left
  pub repeats : (g : FlatGrammar) → Fit g → (number left alternative : ℕ) (p : Production)
      → production_at g number ≡ Some (left, p) → form_of g left number ≡ of_next alternative
      → RepeatsItself left p
  pub start_rule : (g : FlatGrammar) → Fit g → is_repetition g (start_symbol g) ≡ false
  pub token_seen : (g : FlatGrammar) (valid : List Symbol) (rest : Bytes) (s : Symbol)
      (pad size n : ℕ)
      → Lex g valid rest (token s pad size) → Seen g valid rest n → pad + size < n
  pub token_within : (g : FlatGrammar) (valid : List Symbol) (rest : Bytes) (s : Symbol)
      (pad size : ℕ)
      → Lex g valid rest (token s pad size) → pad + size ≤ length rest
  pub begins_within : (rest : Bytes) (u : List ℕ) (n : ℕ) → BeginsSpelled rest u n
      → n ≤ length rest
