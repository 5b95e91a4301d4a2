use Rattle.std.proofs.Common.{◌≡◌, ◌++◌, take}
use Rattle.ts_rules.specs.Sights.{names_ranked}
use Rattle.ts_rules.specs.Names.{told}
use Rattle.ts_rules.proofs.numbered.add_orders.Given as goal

abbrev pub invariant-loop-list : goal.invariant-loop-list
invariant-loop-list l = told l.names.items ≡ told l.initial.names.items ++ names_ranked (take l.list-index l.lists)
