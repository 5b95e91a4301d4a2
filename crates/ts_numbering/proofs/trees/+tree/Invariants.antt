use Rattle.std.proofs.Common.{◌≡◌, map, take}
use Rattle.ts_rules.specs.Numbers.{tree_of}
use Rattle.ts_numbering.specs.Numberings.{numbers_of}
use Rattle.ts_numbering.proofs.trees.+tree.Given as goal

abbrev pub invariant-trees_by-loop-rule : goal.invariant-trees_by-loop-rule
invariant-trees_by-loop-rule l = l.trees ≡ map (tree_of (numbers_of l.numbering)) (take l.rule-index l.rules)
