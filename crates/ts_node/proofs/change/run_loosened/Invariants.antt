use Rattle.std.proofs.Common.{◌≡◌, drop, length}
use Rattle.spec_trees.specs.Made.{loosened}
use Rattle.ts_node.proofs.change.run_loosened.Given as goal

abbrev pub invariant-loop-k : goal.invariant-loop-k
invariant-loop-k l = record {
  children : l.run.children ≡ l.initial.run.children;
  same : length l.run.elements ≡ length l.initial.run.elements;
  rest : loosened (drop l.k-index l.loose) l.run.elements ≡ loosened l.loose l.initial.run.elements;
}
