use Rattle.std.proofs.Common.{◌≡◌, ◌+◌, drop}
use Rattle.spec_trees.specs.Made.{children_count}
use Rattle.ts_node.proofs.cut.owned.Given as goal

abbrev pub invariant-loop-element : goal.invariant-loop-element
invariant-loop-element l = l.count + children_count (drop l.element-index l.elements) ≡ children_count l.elements
