use Rattle.std.specs.List.{Contains}
use Rattle.ts_search.proofs.TakeLemmas.{none_more_at, none_all, no_truth}
use Rattle.ts_search.proofs.taking.meet.Goals as goal

pub loop-field-preserved : goal.loop-field-preserved
loop-field-preserved c = none_more_at (Contains c.args.fields.now) c.args.without.now c.loop-field.field-index 0 c.loop-field-test.true c.loop-field.invariant
    (λ h. let t = c.is_in.ensures.1 h in let f = c.if-is_in.false in cc)

pub returns : goal.returns
returns c = ((λ h. absurd (no_truth h)), (λ h. absurd (none_all (Contains c.args.fields.now) c.args.without.now c.loop-field.field-index c.loop-field-test.false c.loop-field.invariant h.0 h.1 h.2)))
