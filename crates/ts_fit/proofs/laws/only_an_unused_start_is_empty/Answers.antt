use Rattle.ts_fit.proofs.CauseLemmas.{unused_start}
use Rattle.ts_fit.proofs.laws.only_an_unused_start_is_empty.Goals as goal

pub returns : goal.returns
returns c = unused_start
