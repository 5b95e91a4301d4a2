use Rattle.std.proofs.Common.{rules, ◌↔◌, subst, Bool, IfOk, IsTrue}
use Rattle.ts_predicate.specs.Asking.{IsOfOne}
use Rattle.ts_predicate.specs.Predicates.{AnswersOf}
use Rattle.ts_predicate.proofs.AskLemmas.{of_texts_is}
use Rattle.ts_predicate.proofs.judging.holds.Goals as goal

pub returns-clause-holds : goal.returns-clause-holds
returns-clause-holds g c =
    let one : IsOfOne c.args.predicate.now.asked = search rules in
    subst (λ (P : Type 0). IfOk c.of_texts.result (λ (is : Bool). IsTrue is ↔ P))
    (of_texts_is (AnswersOf (g.H.Hosts.called c.args.hosts.now) (g.H.Hosts.accepts c.args.hosts.now)) c.args.text.now c.args.captures.now c.args.predicate.now c.args.predicate.now.asked one)
    c.of_texts.ensures.is
