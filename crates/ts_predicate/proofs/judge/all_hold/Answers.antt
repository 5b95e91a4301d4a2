use Rattle.ts_predicate.proofs.judge.all_hold.Goals as goal

pub returns-in-Some-clause-hold : goal.returns-in-Some-clause-hold
returns-in-Some-clause-hold g c = rw c.in-Some.is c.hold.ensures.hold
