use Rattle.std.proofs.Common.{take}
use Rattle.ts_table.specs.Rows.{AreGotoNumbers}
use Rattle.ts_table.proofs.rows.goto_row.Given as goal

abbrev pub invariant-loop-goto : goal.invariant-loop-goto
invariant-loop-goto l = AreGotoNumbers l.count (take l.goto-index l.gotos) l.row.items
