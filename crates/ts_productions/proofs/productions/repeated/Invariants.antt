use Rattle.std.proofs.Common.{◌≡◌, take}
use Rattle.ts_rules.specs.Productions.{again}
use Rattle.ts_productions.proofs.productions.repeated.Given as goal

abbrev pub invariant-loop-alternative : goal.invariant-loop-alternative
invariant-loop-alternative l = l.found ≡ again l.repetition (take l.alternative-index l.once)
