use Rattle.std.proofs.Common.{◌≡◌, ◌+◌, ◌*◌, ◌≤◌, drop}
use Rattle.spec_trees.specs.Trees.{all_spans}
use Rattle.spec_trees.specs.Made.{most_span}
use Rattle.ts_node.proofs.counts.spans.Given as goal

abbrev pub invariant-loop-node : goal.invariant-loop-node
invariant-loop-node l = record {
  spans : l.spans + all_spans (drop l.node-index l.nodes) ≡ all_spans l.nodes;
  short : l.spans ≤ most_span * l.node-index;
}
