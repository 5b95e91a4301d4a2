use Rattle.std.proofs.Common.{◌≡◌, map, take}
use Rattle.ts_lexer.specs.Rules.{kind_of}
use Rattle.ts_lexer.proofs.rules.rules_of.Given as goal

abbrev pub invariant-loop-token : goal.invariant-loop-token
invariant-loop-token l = l.kinds.items ≡ map kind_of (take l.token-index l.tokens)
