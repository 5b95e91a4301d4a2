use Rattle.spec_runs.proofs.MoveLemmas.{shift_before, reduce_ends, empty_reduce, accept_ends}
use Rattle.spec_runs.proofs.laws.moves_have_their_place.Goals as goal

pub returns-clause-shift : goal.returns-clause-shift
returns-clause-shift c = shift_before

pub returns-clause-reduce : goal.returns-clause-reduce
returns-clause-reduce c = reduce_ends

pub returns-clause-nothing : goal.returns-clause-nothing
returns-clause-nothing c = empty_reduce

pub returns-clause-accept : goal.returns-clause-accept
returns-clause-accept c = accept_ends
