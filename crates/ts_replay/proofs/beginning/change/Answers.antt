use Rattle.std.proofs.Common.{ap, Err}
use Rattle.ts_docs.specs.declared.preparing.Refused.{Refused}
use Rattle.ts_script.specs.declared.plan.ScriptStep.TheVariants as step
use Rattle.ts_replay.specs.Beginnings.{out_of_range, too_large, has_no_memory}
use Rattle.ts_replay.proofs.beginning.change.Goals as goal

pub returns-in-Ok-clause-begins : goal.returns-in-Ok-clause-begins
returns-in-Ok-clause-begins c = λ document. has_no_memory (step.Edit document c.args.edit.now)

pub returns-in-Err-Range-clause-begins : goal.returns-in-Err-Range-clause-begins
returns-in-Err-Range-clause-begins c = λ document. out_of_range document c.args.edit.now (c.in-Err-Range.ensures.range (ap (λ (r : Refused). Err r) c.in-Err-Range.field-0-is))

pub returns-in-Err-Size-clause-begins : goal.returns-in-Err-Size-clause-begins
returns-in-Err-Size-clause-begins c = λ document. too_large document c.args.edit.now c.in-Err-Size.size
    (c.in-Err-Size.ensures.size c.in-Err-Size.size (ap (λ (r : Refused). Err r) c.in-Err-Size.field-0-is))

pub returns-clause-begins : goal.returns-clause-begins
returns-clause-begins c = λ document. has_no_memory (step.Edit document c.args.edit.now)
