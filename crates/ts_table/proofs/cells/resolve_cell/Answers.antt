use Rattle.std.proofs.Common.{refl, sym, subst, ℕ, Option, Some}
use Rattle.std.specs.List.{Contains}
use Rattle.ts_table.specs.Deciding.{StaysOf}
use Rattle.ts_table.specs.Cells.{IsCellOf}
use Rattle.ts_table.proofs.CellLemmas.{cell_same}
use Rattle.ts_table.proofs.ContestLemmas.{cell_none}
use Rattle.ts_table.proofs.cells.resolve_cell.Goals as goal

pub returns-in-None : goal.returns-in-None
returns-in-None c = cell_none c.args.grammar.now c.args.target (Contains c.args.shifts.items) (StaysOf c.args.grammar.now c.args.reductions.now) c.in_ok-kept.kept.items _ c.in-None.is c.in_ok-kept.ensures refl refl c.new.ensures.items

pub returns-in-Some : goal.returns-in-Some
returns-in-Some c = subst (λ (t : Option ℕ). IsCellOf c.args.grammar.now t (Contains c.args.shifts.items) (StaysOf c.args.grammar.now c.args.reductions.now) c.with_shift.result) (sym c.in-Some.is)
    (cell_same c.args.grammar.now (Some c.in-Some.next) (Contains c.args.shifts.items) (Contains c.in_ok-kept.kept.items) (StaysOf c.args.grammar.now c.args.reductions.now) c.in_ok-kept.ensures c.with_shift.result c.with_shift.ensures)
