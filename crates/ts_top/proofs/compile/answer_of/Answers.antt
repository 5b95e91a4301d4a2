use Rattle.std.proofs.Common.{sym, subst, string_bytes}
use Rattle.std.specs.Prelude.{ℕ}
use Rattle.std.specs.Global.{Vec}
use Rattle.spec_output.specs.declared.status.Status.TheVariants.{Grammar}
use Rattle.ts_top.specs.Answer.{Compiled, refused, written}
use Rattle.ts_top.proofs.JudgeLemmas.{refusal_is}
use Rattle.ts_top.proofs.compile.answer_of.Goals as goal

pub returns-in-Ok-clause-compiled : goal.returns-in-Ok-clause-compiled
returns-in-Ok-clause-compiled c = written c.in-Ok.file.items c.requires c.in-Ok.ensures.compiled

pub returns-in-Err-Refused-clause-compiled : goal.returns-in-Err-Refused-clause-compiled
returns-in-Err-Refused-clause-compiled c =
    subst (λ (line : Vec ℕ). Compiled c.args.bytes.now Grammar line.items) (sym c.into_bytes.ensures.value)
    (refused (string_bytes c.in-Err-Refused.line) c.requires (refusal_is c.args.bytes.now c.in-Err-Refused.field-0 c.in-Err-Refused.line c.in-Err-Refused.field-0-is c.in-Err-Refused.ensures.refused))
