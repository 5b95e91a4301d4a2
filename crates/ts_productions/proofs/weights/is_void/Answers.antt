use Rattle.std.proofs.Common.{ap}
use Rattle.ts_productions.specs.Sizes.{many_of}
use Rattle.ts_rules.specs.declared.size.Size.{Size}
use Rattle.ts_productions.proofs.MeasureLemmas.{some_more, void_at}
use Rattle.ts_productions.proofs.weights.is_void.Goals as goal

pub returns-then-weight-eq0-clause-void : goal.returns-then-weight-eq0-clause-void
returns-then-weight-eq0-clause-void c = λ t.
    void_at (many_of c.args.weights.now) c.args.steps.now c.loop-step.step-index _ c.weight.result.many c.loop-step-test.true (ap (λ (s : Size). s.many) c.weight.ensures) c.if-weight-eq0.true

pub loop-step-preserved : goal.loop-step-preserved
loop-step-preserved c =
    some_more (many_of c.args.weights.now) c.args.steps.now c.loop-step.step-index _ c.weight.result.many c.loop-step-test.true (ap (λ (s : Size). s.many) c.weight.ensures) c.if-weight-eq0.false c.loop-step.invariant
