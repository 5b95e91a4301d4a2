use Rattle.std.proofs.Common.{◌≡◌, take}
use Rattle.ts_query_names.specs.Given.{names_told}
use Rattle.ts_query_syntax.specs.Items.{captures_of}
use Rattle.ts_query_syntax.proofs.items.captures_of.Given as goal

abbrev pub invariant-loop-name : goal.invariant-loop-name
invariant-loop-name l = l.all ≡ captures_of (names_told l.numbers) (take l.name-index l.captures)
