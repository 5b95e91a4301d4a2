use Rattle.std.proofs.Common.{◌≡◌, ℕ, ◌<◌, length, get_or}
use Rattle.ts_bits.specs.Members.{IsWide}
use Rattle.ts_bits.proofs.set.BitSet.clear.Given as goal

abbrev pub invariant-loop-at : goal.invariant-loop-at
invariant-loop-at l = record {
  count : length l.self.words.items ≡ length l.initial.self.words.items;
  zero : (k : ℕ) → k < l.at → get_or l.self.words.items k 0 ≡ 0;
  wide : (n : ℕ) → IsWide n l.initial.self → IsWide n l.self;
}
