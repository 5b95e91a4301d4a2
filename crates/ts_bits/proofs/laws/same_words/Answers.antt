use Rattle.ts_bits.proofs.BitLemmas as bits
use Rattle.ts_bits.proofs.laws.same_words.Goals as goal

pub returns : goal.returns
returns c n a b wa wb same = bits.same_words n a b wa wb same
