use Rattle.ts_predicate.specs.Predicates.{AnswersOf}
use Rattle.ts_answers.proofs.ResultLemmas.{next_result}
use Rattle.ts_answers.proofs.answering.answers.Goals as goal

pub loop-number-preserved : goal.loop-number-preserved
loop-number-preserved g c =
    next_result c.args.grammar.now c.args.queries.now (AnswersOf (g.H.Hosts.called c.args.hosts.now) (g.H.Hosts.accepts c.args.hosts.now)) c.args.text.now c.args.root.now
    c.args.numbers.now c.loop-number.number-index 0 c.loop-number.results c.push.new.self c.in_ok-answer.field-0 c.index-queries-number.result c.in_ok-tree.tree
    c.loop-number-test.true c.requires.there c.in_ok-tree.ensures c.index-queries-number.is c.loop-number.invariant c.in_ok-answer.ensures c.in_ok-push.ensures.ok
