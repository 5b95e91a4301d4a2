use Rattle.std.proofs.Common.{sym, subst}
use Rattle.std.specs.Prelude.{ℕ}
use Rattle.std.specs.Global.{Vec}
use Rattle.spec_output.specs.declared.status.Status.TheVariants.{Text}
use Rattle.ts_top.specs.Answer.{Judged}
use Rattle.ts_top.proofs.JudgeLemmas.{no_text_judged}
use Rattle.ts_top.proofs.judge.no_text.Goals as goal

pub returns-in-Some-clause-answers : goal.returns-in-Some-clause-answers
returns-in-Some-clause-answers c = λ g t f b h.
    subst (λ (line : Vec ℕ). Judged g t c.args.path.now Text line.items) (sym c.into_bytes.ensures.value)
    (no_text_judged g t c.args.path.now f c.args.fault.now c.in_ok-line.field-0 c.in-Some.line b h c.in_ok-line.ensures.line c.in-Some.is)
