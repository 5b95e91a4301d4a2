-- The laws of other crates that the laws here rest on.
use Rattle.std.specs.Prelude.{◌≡◌, ℕ, false, List, [], ◌∷◌, Some}
use Rattle.ts_core.specs.declared.flat.FlatGrammar.{FlatGrammar}
use Rattle.ts_core.specs.declared.flat.Production.{Production}
use Rattle.spec_grammar.specs.Symbols.{start_symbol, production_at, is_repetition}
use Rattle.spec_tables.specs.Actions.{Act, shift, reduce, accept}
use Rattle.spec_tables.specs.Fit.{Fit}
use Rattle.spec_tables.specs.Items.{IsToken, end_token}
use Rattle.spec_trees.specs.declared.tree.Tree.{Tree}
use Rattle.spec_trees.specs.Trees.{bare}
use Rattle.spec_trees.specs.Made.{as_extra, form_of, of_next}
use Rattle.spec_runs.specs.BareTrees.{KeepsAll}
use Rattle.spec_runs.specs.Moves.{StandsBefore, EndsWithProduction, RepeatsItself, IsUnused}

-- laws of bare trees, of the moves that stay, of empty productions and of repetitions
pub record RunLaws : Type 0 where
  pub keeps : (t : Tree) → KeepsAll t
  pub extra : (t : Tree) → bare (as_extra t) ≡ as_extra (bare t)
  pub shifts : (g : FlatGrammar) (read : List ℕ) (t : ℕ) → Act g read t shift
      → IsToken g t × StandsBefore g read t
  pub reduces : (g : FlatGrammar) (read : List ℕ) (t number : ℕ) → Act g read t (reduce number)
      → EndsWithProduction g read number
  pub accepts : (g : FlatGrammar) (read : List ℕ) (t : ℕ) → Act g read t accept
      → (t ≡ end_token) × (read ≡ start_symbol g ∷ [])
  pub empty_start : (g : FlatGrammar) → Fit g → (number left : ℕ) (p : Production)
      → production_at g number ≡ Some (left, p) → p.steps ≡ [] → left ≡ start_symbol g
  pub unused : (g : FlatGrammar) → Fit g → (number left : ℕ) (p : Production)
      → production_at g number ≡ Some (left, p) → p.steps ≡ [] → IsUnused g left
  pub repeats : (g : FlatGrammar) → Fit g → (number left alternative : ℕ) (p : Production)
      → production_at g number ≡ Some (left, p) → form_of g left number ≡ of_next alternative
      → RepeatsItself left p
  pub start_rule : (g : FlatGrammar) → Fit g → is_repetition g (start_symbol g) ≡ false
