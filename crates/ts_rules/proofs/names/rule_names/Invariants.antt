use Rattle.std.proofs.Common.{take}
use Rattle.ts_rules.specs.FirstSights.{AreFirstSights}
use Rattle.ts_rules.specs.Names.{told}
use Rattle.ts_rules.specs.Causes.{names_of}
use Rattle.ts_rules.proofs.names.rule_names.Given as goal

abbrev pub invariant-loop-rule : goal.invariant-loop-rule
invariant-loop-rule l = AreFirstSights (names_of (take l.rule-index l.rules)) (told l.names.keys)
