use Rattle.std.proofs.Common.{◌≡◌, ◌++◌, take}
use Rattle.std.specs.List.{flat_map}
use Rattle.ts_rules.specs.Sights.{ranked_name}
use Rattle.ts_rules.specs.Names.{told}
use Rattle.ts_rules.proofs.numbered.add_entries.Given as goal

abbrev pub invariant-loop-entry : goal.invariant-loop-entry
invariant-loop-entry l = told l.names.items ≡ told l.initial.names.items ++ flat_map ranked_name (take l.entry-index l.entries)
