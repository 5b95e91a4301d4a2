use Rattle.std.proofs.Common.{◌-◌, ◌^◌}
use Rattle.ts_items.proofs.FlowLemmas.{Flowing}
use Rattle.ts_items.proofs.flow.flow.Given as goal

abbrev pub invariant-loop-next : goal.invariant-loop-next
invariant-loop-next l = Flowing l.edges l.gives l.initial.sets l.sets l.queue.items l.next

abbrev pub decreases-loop-next : goal.decreases-loop-next
decreases-loop-next l = 2 ^ 64 - l.next
