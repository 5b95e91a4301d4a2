use Rattle.std.proofs.Common.{take}
use Rattle.ts_search.specs.Steps.{AnyStays}
use Rattle.ts_search.proofs.search.any_stays.Given as goal

abbrev pub invariant-loop-tail : goal.invariant-loop-tail
invariant-loop-tail l = AnyStays l.siblings l.rest l.fn.at l.fn.run (take l.tail-index l.tails) → ⊥
