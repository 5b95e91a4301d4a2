use Rattle.ts_session.specs.Limits.{most_file_bytes}
use Rattle.ts_top.proofs.JudgeLemmas.{answer_of_ok, compiled_over, no_absence}
use Rattle.ts_top.proofs.compile.compiled.Goals as goal

pub returns-in-Bytes-clause-compiled : goal.returns-in-Bytes-clause-compiled
returns-in-Bytes-clause-compiled c = answer_of_ok c.answer_of.result c.args.found.now c.in-Bytes.bytes c.as_slice.result.now c.in-Bytes.is c.as_slice.ensures.value c.answer_of.ensures.compiled

pub returns-in_ok-too_large-in-Over-clause-compiled : goal.returns-in_ok-too_large-in-Over-clause-compiled
returns-in_ok-too_large-in-Over-clause-compiled c = compiled_over c.args.found.now _ _ c.in-Over.is c.in_ok-too_large-in-Over.ensures.status c.in_ok-too_large-in-Over.ensures.bytes

pub returns-in_ok-too_large-in-Absent-clause-compiled : goal.returns-in_ok-too_large-in-Absent-clause-compiled
returns-in_ok-too_large-in-Absent-clause-compiled c = λ file answers. absurd (no_absence c.args.found.now most_file_bytes file c.in-Absent.is answers)
