use Rattle.std.proofs.Common.{ℕ, take, ◌↔◌}
use Rattle.ts_bits.specs.Members.{Has, IsWide}
use Rattle.ts_table.specs.Candidates.{ComesAfter}
use Rattle.ts_table.proofs.candidates.lookaheads.Given as goal

abbrev pub invariant-loop-part : goal.invariant-loop-part
invariant-loop-part l = record {
  members : (t : ℕ) → Has l.found t ↔ ComesAfter l.pool.keys (take l.part-index l.parts) t;
  wide : IsWide l.width l.found;
}
