use Rattle.std.proofs.Common.{◌≡◌, ◌++◌, take}
use Rattle.ts_tokens.specs.Patterns.{rule_patterns}
use Rattle.ts_tokens.specs.Placed.{told_patterns}
use Rattle.ts_tokens.proofs.placed.add_rules.Given as goal

abbrev pub invariant-loop-rule : goal.invariant-loop-rule
invariant-loop-rule l = told_patterns l.placed.items ≡ told_patterns l.initial.placed.items ++ rule_patterns (take l.rule-index l.rules)
