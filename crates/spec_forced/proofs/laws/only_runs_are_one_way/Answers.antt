use Rattle.spec_forced.proofs.OnlyLemmas.{only_runs, only_chain, goes_through, one_way, only_alike}
use Rattle.spec_forced.proofs.RunLemmas.{fresh_alike, fresh_start}
use Rattle.spec_forced.proofs.laws.only_runs_are_one_way.Goals as goal

pub returns-clause-run : goal.returns-clause-run
returns-clause-run c = only_runs

pub returns-clause-joined : goal.returns-clause-joined
returns-clause-joined c = only_chain

pub returns-clause-through : goal.returns-clause-through
returns-clause-through c = goes_through

pub returns-clause-one_way : goal.returns-clause-one_way
returns-clause-one_way c = one_way

pub returns-clause-ends : goal.returns-clause-ends
returns-clause-ends c = only_alike

pub returns-clause-fresh : goal.returns-clause-fresh
returns-clause-fresh c = fresh_alike

pub returns-clause-start : goal.returns-clause-start
returns-clause-start c = fresh_start
