use Rattle.std.proofs.Common.{take}
use Rattle.ts_rules.specs.Names.{told}
use Rattle.ts_normalise.specs.Named.{AreNamedAmong}
use Rattle.ts_normalise.proofs.names.token_names.Given as goal

abbrev pub invariant-loop-rule : goal.invariant-loop-rule
invariant-loop-rule l = AreNamedAmong l.grammar (take l.rule-index l.grammar.rules) (told l.names.keys)
