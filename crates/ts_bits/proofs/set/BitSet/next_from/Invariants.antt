use Rattle.ts_bits.proofs.BitLemmas.{Searched}
use Rattle.ts_bits.proofs.set.BitSet.next_from.Given as goal

abbrev pub invariant-loop-at : goal.invariant-loop-at
invariant-loop-at l = Searched l.self.words.items l.from l.at l.place
