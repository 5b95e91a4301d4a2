use Rattle.ts_query_names.specs.Given.{names_told}
use Rattle.ts_query_syntax.specs.declared.fault.QueryFault.TheVariants as fault
use Rattle.ts_query_syntax.proofs.JudgeLemmas.{at_fault, done_init, done_more, done_halt, done_out}
use Rattle.ts_query_syntax.proofs.judge.patterns_of.Goals as goal

pub loop-part-init : goal.loop-part-init
loop-part-init g c = done_init c.args.scope.now.flat.now c.args.scope.now.hosts.now (names_told c.args.numbers.now) c.args.parts.now _ c.new-found.result c.new-found.ensures

pub returns-in_err-one-clause-runs : goal.returns-in_err-one-clause-runs
returns-in_err-one-clause-runs g c =
    at_fault _ _ _ c.in_err-one.field-0.0 _ c.from_residual.ensures.1
    (done_halt c.args.scope.now.flat.now c.args.scope.now.hosts.now (names_told c.args.numbers.now) c.args.parts.now c.loop-part.part-index c.part-item.result _ _ _ _ c.loop-part.found c.loop-part-test.true c.part-item.is c.loop-part.invariant c.in_err-one.ensures.runs)

pub returns-in_err-push-clause-runs : goal.returns-in_err-push-clause-runs
returns-in_err-push-clause-runs g c =
    at_fault _ _ _ fault.Memory _ c.from_residual-in_err-push.ensures.1
    (done_out c.args.scope.now.flat.now c.args.scope.now.hosts.now (names_told c.args.numbers.now) c.args.parts.now c.loop-part.part-index c.part-item.result _ _ _ c.loop-part.found c.loop-part-test.true c.part-item.is c.loop-part.invariant c.in_ok-one.ensures.runs)

pub loop-part-preserved : goal.loop-part-preserved
loop-part-preserved g c =
    done_more c.args.scope.now.flat.now c.args.scope.now.hosts.now (names_told c.args.numbers.now) c.args.parts.now c.loop-part.part-index c.part-item.result _ _ _ c.loop-part.found _ c.in_ok-one.one c.loop-part-test.true c.part-item.is c.loop-part.invariant c.in_ok-one.ensures.runs c.in_ok-one.ensures.is c.in_ok-push.ensures.ok
