use Rattle.std.proofs.Common.{take}
use Rattle.ts_items.specs.Rows.{FromOne}
use Rattle.ts_items.specs.Sets.{GainsTokens, QueuesGains}
use Rattle.ts_items.specs.Flow.{Brought}
use Rattle.ts_items.proofs.flow.visit.Given as goal

abbrev pub invariant-loop-edge : goal.invariant-loop-edge
invariant-loop-edge l = record {
  gains : GainsTokens (FromOne (Brought l.gives l.from) (take l.edge-index l.edges)) l.initial.sets l.sets;
  tells : QueuesGains l.initial.sets l.sets l.initial.queue.items l.queue.items;
}
