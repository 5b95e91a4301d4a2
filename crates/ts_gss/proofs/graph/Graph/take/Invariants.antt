use Rattle.std.proofs.Common.{◌<◌, length}
use Rattle.ts_gss.specs.Stacks.{stack_at}
use Rattle.ts_gss.specs.Paths.{Taking, AreDepthsOf, depths_of}
use Rattle.ts_gss.proofs.graph.Graph.take.Given as goal

abbrev pub invariant-loop-wanting : goal.invariant-loop-wanting
invariant-loop-wanting l = record {
  within : l.at < length l.self;
  taking : Taking (stack_at l.self l.head) l.count l.nodes.items (stack_at l.self l.at) l.wanting;
  depths : AreDepthsOf (depths_of (length l.nodes.items) (stack_at l.self l.head)) l.first l.others;
}

abbrev pub decreases-loop-wanting : goal.decreases-loop-wanting
decreases-loop-wanting l = l.at
