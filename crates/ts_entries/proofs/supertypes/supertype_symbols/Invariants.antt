use Rattle.std.proofs.Common.{◌≡◌, map, take}
use Rattle.ts_rules.specs.Productions.{symbol}
use Rattle.ts_entries.proofs.supertypes.supertype_symbols.Given as goal

abbrev pub invariant-loop-number : goal.invariant-loop-number
invariant-loop-number l = l.symbols ≡ map symbol (take l.number-index l.number-items)
