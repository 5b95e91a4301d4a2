-- What a reduction has to know of a production.
use Rattle.std.specs.Prelude.{◌≡◌, ℕ, Bool, true, false, List, length, slice_get, Some}
use Rattle.ts_core.specs.declared.flat.FlatGrammar.{FlatGrammar}
use Rattle.ts_core.specs.declared.flat.Production.{Production}
use Rattle.spec_grammar.specs.Symbols.{all_productions, production_at}
use Rattle.spec_trees.specs.Made.{Form, of_rule, of_first, of_next, form_of}
use Rattle.ts_steps.specs.declared.lines.ProductionLine.{ProductionLine}

-- whether a production of this form lengthens a repetition
abbrev pub lengthens_by : Form → Bool
lengthens_by of_rule = false
lengthens_by (of_first alternative) = false
lengthens_by (of_next alternative) = true

-- what is kept of the production of a number
pub record IsLine (g : FlatGrammar) (number : ℕ) (l : ProductionLine) : Type 0 where
  pub production : Production
  pub at : production_at g number ≡ Some (l.left.0, production)
  pub steps : l.steps ≡ length production.steps
  pub lengthens : lengthens_by (form_of g l.left.0 number) ≡ l.lengthens

-- there is a line for each of so many productions, in their order
pub record AreLinesUpTo (g : FlatGrammar) (count : ℕ) (lines : List ProductionLine) : Type 0 where
  pub many : length lines ≡ count
  pub each : (number : ℕ) (l : ProductionLine) → slice_get lines number ≡ Some l → IsLine g number l

-- there is a line for each production, in their order
abbrev pub HasAllLines : FlatGrammar → List ProductionLine → Type 0
HasAllLines g lines = AreLinesUpTo g (length (all_productions g)) lines
