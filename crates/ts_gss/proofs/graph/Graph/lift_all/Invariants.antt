use Rattle.std.proofs.Common.{◌<◌, length}
use Rattle.ts_gss.specs.Stacks.{stack_at}
use Rattle.ts_gss.specs.Paths.{Lifting}
use Rattle.ts_gss.proofs.graph.Graph.lift_all.Given as goal

abbrev pub invariant-loop-extras : goal.invariant-loop-extras
invariant-loop-extras l = record {
  within : l.at < length l.self;
  lifting : Lifting (stack_at l.self l.head) l.extras.items (stack_at l.self l.at);
}

abbrev pub decreases-loop-extras : goal.decreases-loop-extras
decreases-loop-extras l = l.at
