use Rattle.std.proofs.Common.{◌≡◌, drop}
use Rattle.spec_trees.specs.Trees.{all_spans, children_of}
use Rattle.ts_offer.proofs.topmost.first_child.Given as goal

abbrev pub invariant-loop-k : goal.invariant-loop-k
invariant-loop-k l = all_spans (drop l.k (children_of l.node)) ≡ all_spans (children_of l.node)
