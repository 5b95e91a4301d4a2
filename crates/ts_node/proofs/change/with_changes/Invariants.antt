use Rattle.std.proofs.Common.{◌≡◌, drop, length}
use Rattle.spec_trees.specs.Made.{replaced}
use Rattle.ts_node.proofs.change.with_changes.Given as goal

abbrev pub invariant-loop-k : goal.invariant-loop-k
invariant-loop-k l = record {
  same : length l.kept.items ≡ length l.nodes;
  rest : replaced (drop l.k-index l.changed) l.kept.items ≡ replaced l.changed l.nodes;
}
