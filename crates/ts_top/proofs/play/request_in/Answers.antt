use Rattle.ts_top.proofs.ProgramLemmas.{asked_ok}
use Rattle.ts_top.proofs.play.request_in.Goals as goal

pub returns-in-None : goal.returns-in-None
returns-in-None c = asked_ok c.replay_in.result _ _ c.in-None.ensures.none c.replay_in.ensures
