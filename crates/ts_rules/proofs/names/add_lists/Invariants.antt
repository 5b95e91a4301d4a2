use Rattle.std.proofs.Common.{◌≡◌, ◌++◌, take}
use Rattle.ts_rules.specs.Causes.{merged}
use Rattle.ts_rules.specs.Names.{told}
use Rattle.ts_rules.proofs.names.add_lists.Given as goal

abbrev pub invariant-loop-list : goal.invariant-loop-list
invariant-loop-list l = told l.names.items ≡ told l.initial.names.items ++ merged (take l.list-index l.lists)
