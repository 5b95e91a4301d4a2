-- What a reduction has to know of a production, and of its rule.
use Rattle.std.specs.Prelude.{◌≡◌, ℕ, ◌≤◌, Bool, true, false, List, length, slice_get, Some}
use Rattle.ts_core.specs.declared.flat.FlatGrammar.{FlatGrammar}
use Rattle.ts_core.specs.declared.flat.Production.{Production}
use Rattle.spec_grammar.specs.Symbols.{all_productions, production_at}
use Rattle.spec_trees.specs.Made.{Form, of_rule, of_first, of_next, form_of, most_span}
use Rattle.ts_table.specs.declared.view.ParseTable.{ParseTable}
use Rattle.ts_reductions.specs.declared.lines.Line.{Line}
use Rattle.ts_table.specs.Ranks.{unit_rank}
use Rattle.ts_reductions.specs.declared.setting.Setting.{Setting}
use Rattle.ts_reductions.specs.declared.setting.Wanted.{Wanted}
use Rattle.ts_reductions.specs.Ranking.{AreRanksOf}

-- whether a production of this form lengthens a repetition
abbrev pub lengthens_by : Form → Bool
lengthens_by of_rule = false
lengthens_by (of_first alternative) = false
lengthens_by (of_next alternative) = true

-- what is kept of the production of a number
pub record IsLine (g : FlatGrammar) (number : ℕ) (l : Line) : Type 0 where
  pub production : Production
  pub at : production_at g number ≡ Some (l.left.0, production)
  pub steps : l.steps ≡ length production.steps
  pub lengthens : lengthens_by (form_of g l.left.0 number) ≡ l.lengthens

-- there is a line for each of so many productions, in their order
pub record AreLinesUpTo (g : FlatGrammar) (count : ℕ) (lines : List Line) : Type 0 where
  pub many : length lines ≡ count
  pub each : (number : ℕ) (l : Line) → slice_get lines number ≡ Some l → IsLine g number l

-- there is a line for each production, in their order
abbrev pub HasAllLines : FlatGrammar → List Line → Type 0
HasAllLines g lines = AreLinesUpTo g (length (all_productions g)) lines

-- the setting is that of the table, and of a text of this size, which is not too long
pub record IsSetting (t : ParseTable) (size : ℕ) (s : Setting) : Type 0 where
  pub productions : s.productions ≡ t.grammar
  pub lines : HasAllLines t.grammar s.lines
  pub ranks : AreRanksOf t.grammar s.ranks
  pub size_is : s.size ≡ size
  pub short : size ≤ most_span

-- the production of a number, with its left side
abbrev pub HasProduction : ParseTable → ℕ → ℕ → Production → Type 0
HasProduction t number left p = production_at t.grammar number ≡ Some (left, p)

-- what a production asks for: how many steps it has, and the rank of its left side
pub record IsWanted (t : ParseTable) (left : ℕ) (p : Production) (w : Wanted) : Type 0 where
  pub steps : w.steps ≡ length p.steps
  pub rank : w.rank ≡ unit_rank t.grammar left
