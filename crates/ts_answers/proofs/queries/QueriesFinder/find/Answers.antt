use Rattle.ts_predicate.specs.Predicates.{AnswersOf}
use Rattle.ts_answers.proofs.ResultLemmas.{found_in_tree}
use Rattle.ts_answers.proofs.queries.QueriesFinder.find.Goals as goal

pub returns : goal.returns
returns g c = found_in_tree c.args.self.now.grammar.now c.args.self.now.queries.now
    (AnswersOf (g.H.Hosts.called c.args.self.now.hosts.now) (g.H.Hosts.accepts c.args.self.now.hosts.now)) c.args.text.now c.args.root.now c.args.numbers.now c.answers.result c.requires.fresh c.answers.ensures
