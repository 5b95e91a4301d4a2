use Rattle.std.proofs.Common.{◌≡◌, ◌++◌, map, take}
use Rattle.ts_rules.specs.Causes.{uses, merged}
use Rattle.ts_rules.specs.Names.{told}
use Rattle.ts_tokens.proofs.uses.+uses.Given as goal

abbrev pub invariant-add_all-loop-tree : goal.invariant-add_all-loop-tree
invariant-add_all-loop-tree l = told l.names.items ≡ told l.initial.names.items ++ merged (map uses (take l.tree-index l.trees))
