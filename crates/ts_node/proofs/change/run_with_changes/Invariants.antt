use Rattle.std.proofs.Common.{◌≡◌, drop, length}
use Rattle.spec_trees.specs.Made.{replaced}
use Rattle.ts_node.proofs.change.run_with_changes.Given as goal

abbrev pub invariant-loop-k : goal.invariant-loop-k
invariant-loop-k l = record {
  elements : l.run.elements ≡ l.initial.run.elements;
  same : length l.run.children ≡ length l.initial.run.children;
  rest : replaced (drop l.k-index l.changed) l.run.children ≡ replaced l.changed l.initial.run.children;
}
