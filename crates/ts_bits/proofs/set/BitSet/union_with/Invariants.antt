use Rattle.std.proofs.Common.{◌≡◌, ℕ, false}
use Rattle.ts_bits.specs.Members.{IsWide}
use Rattle.ts_bits.proofs.BitLemmas.{Joined}
use Rattle.ts_bits.proofs.set.BitSet.union_with.Given as goal

abbrev pub invariant-loop-at : goal.invariant-loop-at
invariant-loop-at l = record {
  joined : Joined l.initial.self.words.items l.other.words.items l.self.words.items l.at;
  wide : (n : ℕ) → IsWide n l.initial.self → IsWide n l.other → IsWide n l.self;
  same : l.changed ≡ false → l.self.words.items ≡ l.initial.self.words.items;
}
