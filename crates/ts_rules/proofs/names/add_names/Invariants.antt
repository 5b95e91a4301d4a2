use Rattle.std.proofs.Common.{◌≡◌, ◌++◌, take}
use Rattle.ts_rules.specs.Names.{told}
use Rattle.ts_rules.proofs.names.add_names.Given as goal

abbrev pub invariant-loop-name : goal.invariant-loop-name
invariant-loop-name l = told l.names.items ≡ told l.initial.names.items ++ take l.name-index l.more
