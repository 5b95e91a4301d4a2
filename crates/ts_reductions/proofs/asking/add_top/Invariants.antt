use Rattle.std.proofs.Common.{length, take, true}
use Rattle.ts_base.specs.Bytes.{Bytes}
use Rattle.ts_reductions.specs.Asking.{IsReadyAt, Adds}
use Rattle.ts_reductions.proofs.AddLemmas.{ByActions}
use Rattle.ts_reductions.proofs.asking.add_top.Given as goal

abbrev pub invariant-loop-action : goal.invariant-loop-action
invariant-loop-action l = (text : Bytes) → IsReadyAt l.table text l.setting l.graph l.batch l.top → Adds l.table (length text) l.graph l.batch (ByActions l.top (take l.action-index l.action-items)) l.initial.mades.items l.mades.items true
