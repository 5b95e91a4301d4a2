-- What is kept of each production.
use Rattle.std.specs.Prelude.{◌≡◌, ℕ, List, length, slice_get, Some}
use Rattle.ts_core.specs.declared.flat.FlatGrammar.{FlatGrammar}
use Rattle.spec_grammar.specs.Symbols.{all_productions}
use Rattle.spec_trees.specs.Made as made
use Rattle.spec_trees.specs.Made.{left_of, value_of, form_of}
use Rattle.spec_trees.specs.Reducible.{HasSmallValue}
use Rattle.ts_node.specs.declared.productions.Entry.{Entry}
use Rattle.ts_node.specs.declared.productions.Form.{Form}
use Rattle.ts_node.specs.declared.productions.Form.TheVariants as form

-- the form that an entry's form stands for
abbrev pub form_is : Form → made.Form
form_is form.Rule = made.of_rule
form_is (form.First alternative) = made.of_first alternative
form_is (form.Next alternative) = made.of_next alternative

-- what is kept of the production of a number
pub record IsEntry (g : FlatGrammar) (number : ℕ) (e : Entry) : Type 0 where
  pub symbol : e.symbol.0 ≡ left_of g number
  pub form : form_is e.form ≡ form_of g (left_of g number) number
  pub value : e.dynamic ≡ value_of g number
  pub small : HasSmallValue g number

-- there is an entry for each of so many productions, in their order
pub record AreUpTo (g : FlatGrammar) (count : ℕ) (entries : List Entry) : Type 0 where
  pub many : length entries ≡ count
  pub each : (number : ℕ) (e : Entry) → slice_get entries number ≡ Some e → IsEntry g number e

-- there is an entry for each production, in their order
abbrev pub HasAllEntries : FlatGrammar → List Entry → Type 0
HasAllEntries g entries = AreUpTo g (length (all_productions g)) entries
