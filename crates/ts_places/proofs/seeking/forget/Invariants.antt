use Rattle.std.proofs.Common.{◌≡◌, List, length}
use Rattle.ts_graph.specs.declared.view.GraphView.{GraphView}
use Rattle.ts_table.specs.declared.view.ParseTable.{ParseTable}
use Rattle.ts_reductions.specs.declared.top.Top.{Top}
use Rattle.ts_places.specs.declared.seeking.Seek.{Seek}
use Rattle.ts_places.specs.Seeking.{WereDue}
use Rattle.ts_places.proofs.ForgetLemmas.{ForgotTo}
use Rattle.ts_places.proofs.seeking.forget.Given as goal

-- `same` is for the reads: the list stays as long
abbrev pub invariant-loop-k : goal.invariant-loop-k
invariant-loop-k l = record {
  same : length l.dues.items ≡ length l.initial.dues.items;
  forgot : (t : ParseTable) (old new : GraphView) (before : Seek) (tops : List Top) → (were : WereDue t old new before l.seek tops l.stay l.initial.dues.items) → ForgotTo t old new before l.seek tops l.stay l.initial.dues.items were l.k l.dues.items;
}
