use Rattle.std.proofs.Common.{◌≡◌, take}
use Rattle.ts_query_names.specs.Kinds.{kind_eq, first_sights}
use Rattle.ts_query_names.specs.Lent.{mentions_told}
use Rattle.ts_query_names.specs.LentNames.{kinds_told}
use Rattle.ts_query_names.specs.Mentions.{kinds_named}
use Rattle.ts_query_names.proofs.numbers.kinds_in.Given as goal

abbrev pub invariant-loop-mention : goal.invariant-loop-mention
invariant-loop-mention l = kinds_told l.found.keys ≡ first_sights kind_eq (kinds_named (mentions_told (take l.mention-index l.mentions)))
