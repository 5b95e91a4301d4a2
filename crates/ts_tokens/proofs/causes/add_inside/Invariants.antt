use Rattle.std.proofs.Common.{◌≡◌, ◌++◌, take}
use Rattle.ts_rules.specs.Sights.{symbols_in, seen_trees}
use Rattle.ts_tokens.specs.Extras.{symbols_told, inner_symbols}
use Rattle.ts_tokens.proofs.causes.add_inside.Given as goal

abbrev pub invariant-loop-spot : goal.invariant-loop-spot
invariant-loop-spot l = symbols_told l.symbols.items ≡ symbols_told l.initial.symbols.items ++ inner_symbols (symbols_in (seen_trees (take l.spot-index l.spots)))
