use Rattle.std.proofs.Common.{take}
use Rattle.ts_productions.specs.Sizes.{FullHold}
use Rattle.ts_productions.proofs.inlined.inlined_expansions.Given as goal

abbrev pub invariant-loop-place : goal.invariant-loop-place
invariant-loop-place l = FullHold l.sources (take l.place-index l.sources.order.now) l.full.items
