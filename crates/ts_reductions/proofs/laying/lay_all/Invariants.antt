use Rattle.std.proofs.Common.{ℕ, take}
use Rattle.spec_graph.specs.Laying.{Parsing}
use Rattle.ts_reductions.specs.Laying.{CanLayAll, AreAllLaid}
use Rattle.ts_reductions.proofs.laying.lay_all.Given as goal

abbrev pub invariant-loop-made : goal.invariant-loop-made
invariant-loop-made l = (P : Parsing) (look : ℕ) → CanLayAll P l.initial.graph look l.mades → AreAllLaid P l.initial.graph l.graph look (take l.made-index l.mades)
