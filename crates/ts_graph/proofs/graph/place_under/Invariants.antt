use Rattle.std.proofs.Common.{◌≡◌, ◌≤◌}
use Rattle.spec_trees.specs.Trees.{all_spans}
use Rattle.ts_gss.specs.Stacks.{stack_at, trees_on}
use Rattle.ts_graph.proofs.graph.place_under.Given as goal

abbrev pub invariant-loop-at : goal.invariant-loop-at
invariant-loop-at l = record {
  high : l.at ≤ l.top;
  low : l.number ≤ l.at;
  spans : all_spans (trees_on (stack_at l.stack l.at)) ≡ l.end;
}

abbrev pub decreases-loop-at : goal.decreases-loop-at
decreases-loop-at l = l.at
