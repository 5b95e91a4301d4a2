use Rattle.std.proofs.Common.{◌≡◌, ◌-◌, length, take}
use Rattle.ts_numbering.specs.Keys.{trees}
use Rattle.ts_tokens.specs.Definitions.{trees_of}
use Rattle.ts_form.specs.Forms.{names_in}
use Rattle.ts_form.proofs.names.with_names.Given as goal

abbrev pub invariant-loop-at : goal.invariant-loop-at
invariant-loop-at l =
    (trees_of l.found.items ≡ trees (take l.at l.tokens))
    × (names_in l.found.items ≡ take l.at l.names)

abbrev pub decreases-loop-at : goal.decreases-loop-at
decreases-loop-at l = length l.tokens - l.at
