use Rattle.ts_query_names.specs.Given.{names_told}
use Rattle.ts_query_names.specs.LentNames.{told}
use Rattle.ts_query_syntax.proofs.JudgeLemmas.{at_fault, sofar_init, sofar_more, sofar_runs, sofar_halt}
use Rattle.ts_query_syntax.proofs.judge.judge_all.Goals as goal

pub loop-mention-init : goal.loop-mention-init
loop-mention-init g c = sofar_init c.args.scope.now.flat.now c.args.scope.now.hosts.now (told c.args.own.now.keys) (names_told c.args.numbers.now) c.args.mentions.now _ c.new-found.result c.new-found.ensures

pub returns-in_err-judge-clause-runs : goal.returns-in_err-judge-clause-runs
returns-in_err-judge-clause-runs g c =
    at_fault _ _ _ c.in_err-judge.field-0.0 _ c.from_residual.ensures.1
    (sofar_halt c.args.scope.now.flat.now c.args.scope.now.hosts.now (told c.args.own.now.keys) (names_told c.args.numbers.now) c.args.mentions.now c.loop-mention.mention-index c.mention-item.result _ _ _ _ c.loop-mention.found c.loop-mention-test.true c.mention-item.is c.loop-mention.invariant c.in_err-judge.ensures.runs)

pub loop-mention-preserved : goal.loop-mention-preserved
loop-mention-preserved g c =
    sofar_more c.args.scope.now.flat.now c.args.scope.now.hosts.now (told c.args.own.now.keys) (names_told c.args.numbers.now) c.args.mentions.now c.loop-mention.mention-index c.mention-item.result _ _ _ c.loop-mention.found _ c.loop-mention-test.true c.mention-item.is c.loop-mention.invariant c.in_ok-judge.ensures.runs c.in_ok-judge.ensures.found

pub returns-clause-runs : goal.returns-clause-runs
returns-clause-runs g c = sofar_runs c.args.scope.now.flat.now c.args.scope.now.hosts.now (told c.args.own.now.keys) (names_told c.args.numbers.now) c.args.mentions.now c.loop-mention.mention-index _ _ c.loop-mention.found c.loop-mention-test.false c.loop-mention.invariant
