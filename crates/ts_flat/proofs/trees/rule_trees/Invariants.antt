use Rattle.std.proofs.Common.{◌≡◌, ◌-◌, length, map, take}
use Rattle.ts_numbering.specs.Keys.{rules_told}
use Rattle.ts_numbering.specs.Numberings.{numbers_of}
use Rattle.ts_productions.specs.Grammars.{rule_tree}
use Rattle.ts_flat.proofs.trees.rule_trees.Given as goal

abbrev pub invariant-loop-at : goal.invariant-loop-at
invariant-loop-at l = l.found.items ≡ map (rule_tree (numbers_of l.numbering)) (take l.at (rules_told l.rules.entries))

abbrev pub decreases-loop-at : goal.decreases-loop-at
decreases-loop-at l = length l.rules.entries - l.at
