use Rattle.spec_packing.proofs.RankLemmas.{no_better_chains}
use Rattle.spec_packing.proofs.laws.no_better_through.Goals as goal

pub returns : goal.returns
returns c = no_better_chains
