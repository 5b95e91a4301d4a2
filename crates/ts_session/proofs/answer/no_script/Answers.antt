use Rattle.ts_session.proofs.JudgeLemmas.{line_told}
use Rattle.ts_session.proofs.answer.no_script.Goals as goal

pub returns-in-Some-clause-bytes : goal.returns-in-Some-clause-bytes
returns-in-Some-clause-bytes c = line_told c.in_ok-line.field-0 c.in-Some.line _ c.of_line.result.bytes.items c.in_ok-line.ensures.line c.in-Some.is c.of_line.ensures.bytes
