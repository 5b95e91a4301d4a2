use Rattle.ts_table.proofs.RankLemmas.{are_ranks}
use Rattle.ts_table.proofs.laws.unit_ranks.Goals as goal

pub returns : goal.returns
returns c = are_ranks
