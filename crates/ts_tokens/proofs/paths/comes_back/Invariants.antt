use Rattle.std.proofs.Common.{◌-◌, ◌^◌}
use Rattle.ts_tokens.specs.Paths.{graph_of}
use Rattle.ts_tokens.proofs.BackLemmas.{Reaching}
use Rattle.ts_tokens.proofs.paths.comes_back.Given as goal

abbrev pub invariant-loop-next : goal.invariant-loop-next
invariant-loop-next l = Reaching (graph_of l.graph) l.node l.found.keys l.next

abbrev pub decreases-loop-next : goal.decreases-loop-next
decreases-loop-next l = 2 ^ 64 - l.next
