use Rattle.std.proofs.Common.{◌+◌, ◌*◌}
use Rattle.ts_tokens.specs.Paths.{graph_of, unseen_count}
use Rattle.ts_tokens.proofs.PathLemmas.{Going}
use Rattle.ts_tokens.proofs.paths.+search.Given as goal

abbrev pub decreases-come_to : goal.decreases-come_to
decreases-come_to l = 2 * unseen_count l.marks.now + 1

abbrev pub decreases-visit : goal.decreases-visit
decreases-visit l = 2 * unseen_count l.marks.now

abbrev pub invariant-visit-loop-to : goal.invariant-visit-loop-to
invariant-visit-loop-to l = Going (graph_of l.graph) l.fn.marks l.marks l.node l.fn.next l.next l.to-items l.to-index
