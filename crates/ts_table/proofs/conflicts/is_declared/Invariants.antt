use Rattle.std.proofs.Common.{take, List}
use Rattle.std.specs.List.{Contains}
use Rattle.ts_core.specs.declared.symbol.Symbol.{Symbol}
use Rattle.ts_table.specs.Rules.{AreSameSymbols}
use Rattle.ts_table.proofs.conflicts.is_declared.Given as goal

abbrev pub invariant-loop-set : goal.invariant-loop-set
invariant-loop-set l = (set : List Symbol) → Contains (take l.set-index l.declared) set → AreSameSymbols set l.rules → ⊥
