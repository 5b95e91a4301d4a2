use Rattle.std.proofs.Common.{◌≡◌, ◌++◌, take}
use Rattle.ts_node.proofs.run.copy_elements.Given as goal

abbrev pub invariant-loop-element : goal.invariant-loop-element
invariant-loop-element l = l.to ≡ l.initial.to ++ take l.element-index l.elements
