use Rattle.spec_crossing.proofs.UnusedLemmas.{only_accepts}
use Rattle.spec_crossing.proofs.laws.unused_symbols_end.Goals as goal

pub returns : goal.returns
returns c g symbol unused above below token move act = only_accepts g symbol unused c.laws_hold.ensures.runs above below token move act
