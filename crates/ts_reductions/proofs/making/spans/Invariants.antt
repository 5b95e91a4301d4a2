use Rattle.std.proofs.Common.{◌≡◌, ◌+◌, drop}
use Rattle.spec_trees.specs.Trees.{all_spans}
use Rattle.ts_reductions.proofs.making.spans.Given as goal

abbrev pub invariant-loop-node : goal.invariant-loop-node
invariant-loop-node l = l.sum + all_spans (drop l.node-index l.nodes) ≡ all_spans l.nodes
