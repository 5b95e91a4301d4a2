use Rattle.std.proofs.Common.{◌≡◌, ◌++◌, take}
use Rattle.ts_node.proofs.sums.copy.Given as goal

abbrev pub invariant-loop-node : goal.invariant-loop-node
invariant-loop-node l = l.to ≡ l.initial.to ++ take l.node-index l.nodes
