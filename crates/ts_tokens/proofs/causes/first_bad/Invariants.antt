use Rattle.std.proofs.Common.{take}
use Rattle.ts_core.specs.declared.rule.Grammar.{Grammar}
use Rattle.ts_rules.specs.Causes.{IsBadExtra}
use Rattle.ts_rules.specs.FirstSights.{Clear}
use Rattle.ts_rules.specs.Names.{told}
use Rattle.ts_tokens.specs.Names.{AreTokenNames}
use Rattle.ts_tokens.specs.Extras.{symbols_told}
use Rattle.ts_tokens.proofs.causes.first_bad.Given as goal

abbrev pub invariant-loop-symbol : goal.invariant-loop-symbol
invariant-loop-symbol l = (g : Grammar) → AreTokenNames g (told l.token_names.keys) → Clear (IsBadExtra g) (symbols_told (take l.symbol-index l.symbols))
