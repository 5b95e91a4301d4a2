use Rattle.spec_packing.proofs.OneLemmas.{one_packed}
use Rattle.spec_packing.proofs.laws.one_packed_reduction.Goals as goal

pub returns : goal.returns
returns c = one_packed
