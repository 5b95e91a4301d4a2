use Rattle.std.proofs.Common.{take}
use Rattle.ts_productions.specs.Sizes.{SizesHold}
use Rattle.ts_productions.proofs.totals.inlined_sizes.Given as goal

abbrev pub invariant-loop-place : goal.invariant-loop-place
invariant-loop-place l = SizesHold l.sources (take l.place-index l.sources.order.now) l.sizes.items
