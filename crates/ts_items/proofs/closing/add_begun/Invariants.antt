use Rattle.std.proofs.Common.{ℕ}
use Rattle.ts_items.specs.Sets.{AreWide}
use Rattle.ts_items.specs.Closing.{AreBegun, AddsSets, IsPool}
use Rattle.ts_items.proofs.closing.add_begun.Given as goal

abbrev pub invariant-loop-symbol : goal.invariant-loop-symbol
invariant-loop-symbol l = record {
  grows : AddsSets l.initial.pool.keys l.pool.keys;
  pool : (n : ℕ) → IsPool n l.initial.pool.keys → AreWide n l.asked → IsPool n l.pool.keys;
  begun : AreBegun l.lines l.asked l.pool.keys l.symbol l.initial.parts.items l.parts.items;
}
