use Rattle.std.proofs.Common.{sym, subst, string_bytes}
use Rattle.std.specs.Prelude.{ℕ}
use Rattle.std.specs.Global.{Vec}
use Rattle.spec_output.specs.declared.status.Status.TheVariants.{Done}
use Rattle.ts_top.specs.Answer.{Judged}
use Rattle.ts_top.proofs.JudgeLemmas.{parsed_judged}
use Rattle.ts_top.proofs.judge.parsed.Goals as goal

pub returns-clause-answers : goal.returns-clause-answers
returns-clause-answers c = λ g path b is.
    subst (λ (line : Vec ℕ). Judged g c.args.text.now path Done line.items) (sym c.into_bytes.ensures.value)
    (parsed_judged g c.args.text.now path (string_bytes c.in_ok-line.line) c.args.table.now.grammar b is c.in_ok-line.ensures)
