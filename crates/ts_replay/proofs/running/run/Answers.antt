use Rattle.ts_replay.proofs.running.run.Goals as goal

pub returns-clause-runs : goal.returns-clause-runs
returns-clause-runs g c = λ plan openings at. c.take_rest.ensures.runs plan openings c.args.order.now (c.take_all.ensures.runs plan openings at)
