use Rattle.ts_session.proofs.JudgeLemmas.{text_refused}
use Rattle.ts_session.proofs.openings.refused.Goals as goal

pub returns-in-Some : goal.returns-in-Some
returns-in-Some c = λ files bytes at is. text_refused files c.args.path.now bytes c.args.fault.now c.in_ok-line.field-0 c.in-Some.line at is c.in_ok-line.ensures.line c.in-Some.is
