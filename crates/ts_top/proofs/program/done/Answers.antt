use Rattle.ts_top.proofs.ProgramLemmas.{plain_ok}
use Rattle.ts_top.proofs.program.done.Goals as goal

pub returns-in-Some-clause-answers : goal.returns-in-Some-clause-answers
returns-in-Some-clause-answers g c = plain_ok _ _ c.compile.result _ _ _ _ _ c.compile.ensures.answers
