use Rattle.std.proofs.Common.{◌≡◌, ◌++◌, take}
use Rattle.std.specs.List.{flat_map}
use Rattle.ts_rules.specs.Sights.{ranked_rule}
use Rattle.ts_rules.specs.Names.{told}
use Rattle.ts_rules.proofs.names.add_rules.Given as goal

abbrev pub invariant-loop-entry : goal.invariant-loop-entry
invariant-loop-entry l = told l.names.items ≡ told l.initial.names.items ++ flat_map ranked_rule (take l.entry-index l.entries)
