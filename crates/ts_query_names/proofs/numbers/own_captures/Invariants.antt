use Rattle.std.proofs.Common.{◌≡◌, take}
use Rattle.std.specs.Str.{bytes_eq}
use Rattle.ts_query_names.specs.Kinds.{first_sights}
use Rattle.ts_query_names.specs.Lent.{mentions_told}
use Rattle.ts_query_names.specs.LentNames.{told}
use Rattle.ts_query_names.specs.Mentions.{item_captures}
use Rattle.ts_query_names.proofs.numbers.own_captures.Given as goal

abbrev pub invariant-loop-mention : goal.invariant-loop-mention
invariant-loop-mention l = told l.found.keys ≡ first_sights bytes_eq (item_captures (mentions_told (take l.mention-index l.mentions)))
