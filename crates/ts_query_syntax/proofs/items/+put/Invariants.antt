use Rattle.std.proofs.Common.{◌≡◌, take}
use Rattle.ts_query_names.specs.Given.{names_told}
use Rattle.ts_query_syntax.specs.Items.{pieces_in}
use Rattle.ts_query_syntax.specs.Levels.{after}
use Rattle.ts_query_syntax.proofs.items.+put.Given as goal

abbrev pub invariant-put_all-loop-part : goal.invariant-put_all-loop-part
invariant-put_all-loop-part l = l.level ≡ after l.initial.level (pieces_in (names_told l.numbers) (take l.part-index l.parts))
