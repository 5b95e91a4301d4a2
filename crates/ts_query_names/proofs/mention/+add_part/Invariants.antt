use Rattle.std.proofs.Common.{◌≡◌, ◌++◌, take}
use Rattle.ts_query_names.specs.Lent.{mentions_told}
use Rattle.ts_query_names.specs.Mentions.{mentions_in}
use Rattle.ts_query_names.proofs.mention.+add_part.Given as goal

abbrev pub invariant-add_parts-loop-part : goal.invariant-add_parts-loop-part
invariant-add_parts-loop-part l = mentions_told l.found.items ≡ mentions_told l.initial.found.items ++ mentions_in (take l.part-index l.parts) l.in_round
