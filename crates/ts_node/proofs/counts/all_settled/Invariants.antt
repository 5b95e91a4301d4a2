use Rattle.std.proofs.Common.{◌≡◌, drop}
use Rattle.ts_node.specs.Held.{all_settled}
use Rattle.ts_node.proofs.counts.all_settled.Given as goal

abbrev pub invariant-loop-element : goal.invariant-loop-element
invariant-loop-element l = all_settled (drop l.element-index l.elements) ≡ all_settled l.elements
