use Rattle.std.proofs.Common.{take, None}
use Rattle.ts_base.specs.Bytes.{Bytes}
use Rattle.ts_table.specs.declared.view.ParseTable.{ParseTable}
use Rattle.ts_places.specs.Best.{CanChoose, KeepsRoots}
use Rattle.ts_places.proofs.best.best_of.Given as goal

abbrev pub invariant-loop-head : goal.invariant-loop-head
invariant-loop-head l = (t : ParseTable) (text : Bytes) → CanChoose t text l.graph l.size l.heads → KeepsRoots t text l.graph (take l.head-index l.heads) None l.best
