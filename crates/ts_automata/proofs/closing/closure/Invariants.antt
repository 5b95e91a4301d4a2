use Rattle.std.proofs.Common.{◌-◌, ◌^◌, [], take}
use Rattle.std.specs.List.{Contains}
use Rattle.ts_automata.specs.Reads.{Splits}
use Rattle.ts_automata.specs.Sets.{Adds}
use Rattle.ts_automata.proofs.LeastLemmas.{Closing}
use Rattle.ts_automata.proofs.closing.closure.Given as goal

abbrev pub invariant-loop-node : goal.invariant-loop-node
invariant-loop-node l = Adds (Contains (take l.node-index l.kernel)) [] l.found.keys

abbrev pub invariant-loop-next : goal.invariant-loop-next
invariant-loop-next l = Closing (Splits l.nodes) l.kernel l.found.keys l.next

abbrev pub decreases-loop-next : goal.decreases-loop-next
decreases-loop-next l = 2 ^ 64 - l.next
