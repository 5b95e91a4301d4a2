use Rattle.spec_tables.specs.Fit.{bare_step}
use Rattle.ts_fit.proofs.RepeatLemmas.{before_is}
use Rattle.ts_fit.proofs.repetitions.is_before.Goals as goal

pub returns-then-is_bare : goal.returns-then-is_bare
returns-then-is_bare c =
    before_is c.args.again.now c.args.content.now c.in-Some.rest.now c.in-Some.first.now (bare_step c.args.symbol) c.are_same.result c.in-Some.ensures.cases.0 (c.is_bare.ensures.0 c.if-is_bare.true) c.are_same.ensures
