use Rattle.std.proofs.Common.{length, take, true}
use Rattle.ts_base.specs.Bytes.{Bytes}
use Rattle.ts_reductions.specs.Asking.{IsReadyAt, HasWays, Adds}
use Rattle.ts_reductions.proofs.AddLemmas.{OnWays}
use Rattle.ts_reductions.proofs.asking.add_all.Given as goal

abbrev pub invariant-loop-way : goal.invariant-loop-way
invariant-loop-way l = (text : Bytes) → IsReadyAt l.table text l.setting l.graph l.asked.batch l.asked.top → HasWays l.table l.graph l.asked.batch l.asked.top l.asked.number l.ways → Adds l.table (length text) l.graph l.asked.batch (OnWays l.graph.links l.asked.top l.asked.number (take l.way-index l.ways)) l.initial.mades.items l.mades.items true
