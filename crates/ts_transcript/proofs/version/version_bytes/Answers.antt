use Rattle.std.proofs.Common.{sym, subst}
use Rattle.ts_base.specs.Bytes.{Bytes}
use Rattle.ts_glr.specs.Outcomes.{value_of_outcome}
use Rattle.ts_glr.specs.declared.outcome.Outcome.{Outcome}
use Rattle.ts_print.specs.Printed.{TreeLiesIn}
use Rattle.ts_transcript.proofs.version.version_bytes.Goals as goal

pub outcome_bytes-requires : goal.outcome_bytes-requires
outcome_bytes-requires c =
    let version = c.args.version.now in
    subst (λ (text : Bytes). TreeLiesIn text (value_of_outcome c.outcome.result.now)) (sym c.text.ensures)
    (subst (λ (o : Outcome). TreeLiesIn version.text (value_of_outcome o)) (sym c.outcome.ensures)
    (c.fresh_trees_lie_in_the_text.ensures version.table.grammar version.text (value_of_outcome version.outcome) c.stands.ensures.fresh))
