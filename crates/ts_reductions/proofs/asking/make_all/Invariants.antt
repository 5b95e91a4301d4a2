use Rattle.std.proofs.Common.{[], length, take, true}
use Rattle.ts_base.specs.Bytes.{Bytes}
use Rattle.ts_reductions.specs.Sound.{Base}
use Rattle.ts_reductions.specs.Asking.{IsReady, Adds, ByTops}
use Rattle.ts_reductions.proofs.asking.make_all.Given as goal

abbrev pub invariant-loop-top : goal.invariant-loop-top
invariant-loop-top l = (text : Bytes) (base : Base) → IsReady l.table text base l.setting l.graph l.batch l.tops → Adds l.table (length text) l.graph l.batch (ByTops (take l.top-index l.tops)) [] l.mades.items true
