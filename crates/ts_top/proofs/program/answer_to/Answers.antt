use Rattle.ts_top.proofs.ProgramLemmas.{usage_answer, absent_answer}
use Rattle.ts_top.proofs.program.answer_to.Goals as goal

pub returns-in_ok-usage-in-Err-Usage-clause-answers : goal.returns-in_ok-usage-in-Err-Usage-clause-answers
returns-in_ok-usage-in-Err-Usage-clause-answers g c =
    usage_answer _ _ _ _ _ _ _ _ c.in-Err-Usage.field-0 _ _ c.in-Err-Usage.field-0-is c.in-Err-Usage.ensures.stop c.in_ok-usage-in-Err-Usage.ensures.status c.in_ok-usage-in-Err-Usage.ensures.line

pub returns-in_ok-absent-in-Err-Absent-clause-answers : goal.returns-in_ok-absent-in-Err-Absent-clause-answers
returns-in_ok-absent-in-Err-Absent-clause-answers g c =
    absent_answer _ _ _ _ _ _ _ _ c.in-Err-Absent.field-0 c.in-Err-Absent.path _ _ c.in-Err-Absent.field-0-is c.in-Err-Absent.ensures.stop c.in_ok-absent-in-Err-Absent.ensures.status c.in_ok-absent-in-Err-Absent.ensures.line
