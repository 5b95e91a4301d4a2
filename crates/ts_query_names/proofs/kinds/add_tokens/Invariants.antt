use Rattle.std.proofs.Common.{◌≡◌, take}
use Rattle.std.specs.List.{flat_map}
use Rattle.ts_query_names.specs.Kinds.{kind_eq, with_new, token_kind}
use Rattle.ts_query_names.specs.LentNames.{kinds_told}
use Rattle.ts_query_names.proofs.kinds.add_tokens.Given as goal

abbrev pub invariant-loop-token : goal.invariant-loop-token
invariant-loop-token l = kinds_told l.found.keys ≡ with_new kind_eq (kinds_told l.initial.found.keys) (flat_map token_kind (take l.token-index l.tokens))
