use Rattle.std.proofs.Common.{◌∙◌, sym, refl, subst}
use Rattle.spec_runs.specs.Outcomes.{Fresh}
use Rattle.ts_glr.specs.Outcomes.{value_of_outcome}
use Rattle.ts_glr.specs.declared.outcome.Outcome.{Outcome}
use Rattle.ts_replay.proofs.BeginLemmas.{no_tree}
use Rattle.ts_replay.proofs.beginning.query.Goals as goal

pub returns-in-Accepted : goal.returns-in-Accepted
returns-in-Accepted c = λ client asker document. record {
  document = document;
  step_is = refl;
  fresh = subst (λ (o : Outcome). Fresh c.args.held.now.table.grammar c.args.held.now.text (value_of_outcome o)) (sym c.outcome.ensures ∙ c.in-Accepted.is) c.stands.ensures.fresh;
}

pub absent-requires-clause-none : goal.absent-requires-clause-none
absent-requires-clause-none c =
    no_tree c.args.held.now.table.grammar c.args.held.now.text c.outcome.result.now
    (subst (λ (o : Outcome). Fresh c.args.held.now.table.grammar c.args.held.now.text (value_of_outcome o)) (sym c.outcome.ensures) c.stands.ensures.fresh)
    c.in-Stuck.is

pub returns-in-Stuck : goal.returns-in-Stuck
returns-in-Stuck c = λ client asker document. c.absent.ensures document c.args.queries.now
