use Rattle.std.proofs.Common.{◌≡◌, map}
use Rattle.ts_rules.specs.Tokens.{one_char}
use Rattle.ts_tokens.proofs.expression.chars_of.Given as goal

abbrev pub invariant-loop-c : goal.invariant-loop-c
invariant-loop-c l = l.parts ≡ map one_char l.yielded
