use Rattle.std.proofs.Common.{◌≡◌, ◌+◌, ◌*◌, ◌≤◌, ◌^◌, drop, max, take}
use Rattle.std.specs.Int.RustNames.{unsigned_abs}
use lib.IntN.{◌+ℤ◌}
use Rattle.std.specs.Prelude.{All}
use Rattle.spec_trees.specs.Trees.{all_nodes, all_spans, all_totals, greatest_depth}
use Rattle.spec_trees.specs.Made.{node_limit, most_span}
use Rattle.ts_node.specs.Held.{HoldsNodes}
use Rattle.ts_node.proofs.sums.sums.Given as goal

abbrev pub invariant-loop-child : goal.invariant-loop-child
invariant-loop-child l = record {
  nodes : l.nodes + all_nodes (drop l.child-index l.children) ≡ all_nodes l.children;
  spans : l.spans + all_spans (drop l.child-index l.children) ≡ all_spans l.children;
  depth : max l.depth (greatest_depth (drop l.child-index l.children)) ≡ greatest_depth l.children;
  few : l.nodes ≤ node_limit * l.child-index;
  short : l.spans ≤ most_span * l.child-index;
  totals : l.totals +ℤ all_totals (drop l.child-index l.children) ≡ all_totals l.children;
  modest : unsigned_abs l.totals ≤ 2 ^ 31 * l.nodes;
  whole : All HoldsNodes (take l.child-index l.children);
}
