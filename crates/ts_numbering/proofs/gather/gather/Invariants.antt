use Rattle.std.proofs.Common.{◌≡◌, take}
use Rattle.ts_rules.specs.Sights.{tokens_in, seen_rules}
use Rattle.ts_numbering.specs.Keys.{trees, repeated_in}
use Rattle.ts_numbering.proofs.gather.gather.Given as goal

abbrev pub invariant-loop-rule : goal.invariant-loop-rule
invariant-loop-rule l =
    (trees l.tokens.items ≡ tokens_in (seen_rules (take l.rule-index l.rules)))
    × (trees l.contents.items ≡ repeated_in (seen_rules (take l.rule-index l.rules)))
