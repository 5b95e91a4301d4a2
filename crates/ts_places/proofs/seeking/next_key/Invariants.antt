use Rattle.std.proofs.Common.{◌≡◌, ◌≤◌, List, length}
use Rattle.ts_base.specs.Bytes.{Bytes}
use Rattle.ts_reductions.specs.declared.top.Top.{Top}
use Rattle.ts_reductions.specs.Sound.{Base}
use Rattle.ts_places.specs.Seeking.{CanSeek, AreDue}
use Rattle.ts_places.proofs.SoughtLemmas.{SoughtTo}
use Rattle.ts_places.proofs.seeking.next_key.Given as goal

abbrev pub invariant-loop-left : goal.invariant-loop-left
invariant-loop-left l = record {
  same : length l.dues.items ≡ length l.initial.dues.items;
  few : l.left ≤ length l.initial.dues.items;
  sought : (text : Bytes) (base : Base) (tops : List Top) → CanSeek l.table text base l.setting l.graph l.seek tops → (a : AreDue l.table l.graph l.seek tops l.initial.dues.items) → SoughtTo l.table l.graph l.seek tops l.initial.dues.items a l.left l.dues.items l.found;
}

abbrev pub decreases-loop-left : goal.decreases-loop-left
decreases-loop-left l = l.left
