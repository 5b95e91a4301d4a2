use Rattle.ts_session.specs.Limits.{most_file_bytes}
use Rattle.ts_top.proofs.JudgeLemmas.{by_grammar_ok, judged_over, no_absence}
use Rattle.ts_top.proofs.judge.judge.Goals as goal

pub returns-in-Bytes-clause-answers : goal.returns-in-Bytes-clause-answers
returns-in-Bytes-clause-answers c = by_grammar_ok c.by_grammar.result c.args.grammar.now c.args.text.now c.in-Bytes.bytes c.as_slice.result.now c.args.path.now c.in-Bytes.is c.as_slice.ensures.value c.by_grammar.ensures.answers

pub returns-in_ok-too_large-in-Over-clause-answers : goal.returns-in_ok-too_large-in-Over-clause-answers
returns-in_ok-too_large-in-Over-clause-answers c = judged_over c.args.grammar.now c.args.text.now c.args.path.now _ _ c.in-Over.is c.in_ok-too_large-in-Over.ensures.status c.in_ok-too_large-in-Over.ensures.bytes

pub returns-in_ok-too_large-in-Absent-clause-answers : goal.returns-in_ok-too_large-in-Absent-clause-answers
returns-in_ok-too_large-in-Absent-clause-answers c = λ g t are. absurd (no_absence c.args.grammar.now most_file_bytes g c.in-Absent.is are.grammar_is)
