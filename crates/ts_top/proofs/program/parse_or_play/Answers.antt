use Rattle.ts_top.proofs.ProgramLemmas.{plain_ok}
use Rattle.ts_top.proofs.program.parse_or_play.Goals as goal

pub returns-in-Some-clause-answers : goal.returns-in-Some-clause-answers
returns-in-Some-clause-answers g c = plain_ok _ _ c.parse.result _ _ _ _ _ c.parse.ensures.answers
