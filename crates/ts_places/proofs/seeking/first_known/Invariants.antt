use Rattle.std.proofs.Common.{List, None, take}
use Rattle.ts_graph.specs.declared.view.GraphView.{GraphView}
use Rattle.ts_table.specs.declared.view.ParseTable.{ParseTable}
use Rattle.ts_reductions.specs.declared.top.Top.{Top}
use Rattle.ts_places.specs.Seeking.{Seeks, OfKnown, AreDue}
use Rattle.ts_places.proofs.seeking.first_known.Given as goal

abbrev pub invariant-loop-due : goal.invariant-loop-due
invariant-loop-due l = (t : ParseTable) (g : GraphView) (tops : List Top) → AreDue t g l.seek tops l.dues → Seeks t g l.seek (OfKnown (take l.due-index l.dues)) None l.found
