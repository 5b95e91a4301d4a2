use Rattle.ts_predicate.specs.Predicates.{AnswersOf}
use Rattle.ts_answers.proofs.ResultLemmas.{of_number}
use Rattle.ts_answers.proofs.queries.QueriesFinder.find_one.Goals as goal

pub returns : goal.returns
returns g c = of_number c.args.self.now.queries.now
    (AnswersOf (g.H.Hosts.called c.args.self.now.hosts.now) (g.H.Hosts.accepts c.args.self.now.hosts.now)) c.args.text.now c.args.tree.now
    c.args.number c.index-self-number.result c.answer.result c.requires.there c.answer.ensures
