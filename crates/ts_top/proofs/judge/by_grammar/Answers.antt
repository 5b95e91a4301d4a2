use Rattle.std.proofs.Common.{sym, subst, string_bytes}
use Rattle.std.specs.Prelude.{ℕ}
use Rattle.std.specs.Global.{Vec}
use Rattle.spec_output.specs.declared.status.Status.TheVariants.{Grammar}
use Rattle.ts_top.specs.Answer.{Judged, refused_grammar}
use Rattle.ts_top.proofs.JudgeLemmas.{by_table_ok, refusal_is}
use Rattle.ts_top.proofs.judge.by_grammar.Goals as goal

pub returns-in-Ok-clause-answers : goal.returns-in-Ok-clause-answers
returns-in-Ok-clause-answers c =
    by_table_ok c.by_table.result c.args.grammar.now c.in-Ok.table.grammar c.args.text.now c.args.path.now (record { small = c.requires; is_form = c.in-Ok.ensures.form; table = c.in-Ok.ensures.has }) c.by_table.ensures.answers

pub returns-in-Err-Refused-clause-answers : goal.returns-in-Err-Refused-clause-answers
returns-in-Err-Refused-clause-answers c = λ t answers.
    subst (λ (line : Vec ℕ). Judged c.args.grammar.now t c.args.path.now Grammar line.items) (sym c.into_bytes.ensures.value)
    (rw c.in-Err-Refused.field-0-is (refused_grammar (string_bytes c.in-Err-Refused.line) c.requires (refusal_is c.args.grammar.now c.in-Err-Refused.field-0 c.in-Err-Refused.line c.in-Err-Refused.field-0-is c.in-Err-Refused.ensures.refused)))
