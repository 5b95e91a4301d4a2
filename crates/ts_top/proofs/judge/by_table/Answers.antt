use Rattle.ts_top.proofs.JudgeLemmas.{text_judged, no_text_ok}
use Rattle.ts_top.proofs.judge.by_table.Goals as goal

pub returns-in_ok-parsed-in-Ok-clause-answers : goal.returns-in_ok-parsed-in-Ok-clause-answers
returns-in_ok-parsed-in-Ok-clause-answers c = λ g t b answers.
    text_judged g t c.in-Ok.text c.args.path.now _ _ (c.in-Ok.ensures.text t answers) c.in_ok-parsed-in-Ok.ensures.status (c.in_ok-parsed-in-Ok.ensures.answers g c.args.path.now b)

pub returns-in-Err-clause-answers : goal.returns-in-Err-clause-answers
returns-in-Err-clause-answers c = no_text_ok c.no_text.result c.args.table.now.grammar c.args.text.now c.args.path.now c.in-Err.fault c.in-Err.ensures.fault c.no_text.ensures.answers
