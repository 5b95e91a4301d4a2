use Rattle.ts_replay.proofs.beginning.drafted.Goals as goal

pub returns-clause-size : goal.returns-clause-size
returns-clause-size c = λ bytes e. (c.prepare.ensures.size bytes).0 e
