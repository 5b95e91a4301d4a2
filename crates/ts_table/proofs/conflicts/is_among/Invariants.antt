use Rattle.std.proofs.Common.{◌≡◌, take}
use Rattle.std.specs.List.{Contains}
use Rattle.ts_core.specs.declared.symbol.Symbol.{Symbol}
use Rattle.ts_table.proofs.conflicts.is_among.Given as goal

abbrev pub invariant-loop-other : goal.invariant-loop-other
invariant-loop-other l = (q : Symbol) → Contains (take l.other-index l.symbols) q → q.0 ≡ l.symbol.0 → ⊥
