use Rattle.std.proofs.Common.{take}
use Rattle.ts_rules.specs.Names.{told}
use Rattle.ts_tokens.specs.Names.{HaveSame}
use Rattle.ts_tokens.proofs.names.name_set.Given as goal

abbrev pub invariant-loop-name : goal.invariant-loop-name
invariant-loop-name l = HaveSame (told l.found.keys) (take l.name-index l.names)
