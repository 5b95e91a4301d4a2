use Rattle.std.proofs.Common.{◌≡◌, take}
use Rattle.std.specs.List.{flat_map}
use Rattle.ts_query_names.specs.Kinds.{kind_eq, with_new, production_kinds}
use Rattle.ts_query_names.specs.LentNames.{kinds_told}
use Rattle.ts_query_names.proofs.kinds.add_productions.Given as goal

abbrev pub invariant-loop-production : goal.invariant-loop-production
invariant-loop-production l = kinds_told l.found.keys ≡ with_new kind_eq (kinds_told l.initial.found.keys) (flat_map production_kinds (take l.production-index l.productions))
