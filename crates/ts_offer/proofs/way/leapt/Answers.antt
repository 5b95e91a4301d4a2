use Rattle.ts_offer.proofs.way.leapt.Goals as goal

pub leapt_in-requires-clause-repetition : goal.leapt_in-requires-clause-repetition
leapt_in-requires-clause-repetition c = c.passes_next.ensures c.if-passes_next.true

pub leapt_in-requires-clause-begun : goal.leapt_in-requires-clause-begun
leapt_in-requires-clause-begun c = c.requires.begun c.in-Some.at c.in-Some.is
