use Rattle.std.proofs.Common.{take}
use Rattle.ts_rules.specs.Causes.{IsBadInline, names_of}
use Rattle.ts_rules.specs.FirstSights.{Clear}
use Rattle.ts_tokens.proofs.inlining.first_bad.Given as goal

abbrev pub invariant-loop-place : goal.invariant-loop-place
invariant-loop-place l = Clear (IsBadInline l.grammar) (names_of (take l.place l.grammar.rules))
