-- What stays the same through a parse: the grammar, its productions by number, and the text's size.
use Rattle.std.specs.Prelude.{◌≡◌, ℕ, ◌≤◌}
use Rattle.spec_trees.specs.Made.{most_span}
use Rattle.ts_table.specs.declared.view.ParseTable.{ParseTable}
use Rattle.ts_steps.specs.Lines.{HasAllLines}
use Rattle.ts_steps.specs.declared.setting.ParseSetting.{ParseSetting}

-- the setting is that of the table, and of a text of this size, which is not too long
pub record IsParseSetting (t : ParseTable) (size : ℕ) (s : ParseSetting) : Type 0 where
  pub productions : s.productions ≡ t.grammar
  pub lines : HasAllLines t.grammar s.lines
  pub size_is : s.size ≡ size
  pub short : size ≤ most_span
