use Rattle.std.proofs.Common.{◌≡◌, take}
use Rattle.std.specs.List.{flat_map}
use Rattle.ts_query_names.specs.Kinds.{kind_eq, with_new, rule_kinds}
use Rattle.ts_query_names.specs.LentNames.{kinds_told}
use Rattle.ts_query_names.proofs.kinds.add_rules.Given as goal

abbrev pub invariant-loop-rule : goal.invariant-loop-rule
invariant-loop-rule l = kinds_told l.found.keys ≡ with_new kind_eq (kinds_told l.initial.found.keys) (flat_map rule_kinds (take l.rule-index l.rules))
