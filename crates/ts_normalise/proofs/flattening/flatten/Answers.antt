use Rattle.ts_normalise.proofs.WholeLemmas.{due_refusal, due_form}
use Rattle.ts_normalise.proofs.flattening.flatten.Goals as goal

pub returns-clause-refuses : goal.returns-clause-refuses
returns-clause-refuses c = due_refusal c.args.grammar.now (c.one_refusal.ensures c.args.grammar.now) (c.refused_is_not_flattened.ensures c.args.grammar.now) c.checked_form.result c.checked_form.ensures.normal c.checked_form.ensures.refused

pub returns-clause-gives : goal.returns-clause-gives
returns-clause-gives c = due_form c.args.grammar.now (c.one_normal_form.ensures.flattened c.args.grammar.now) (c.refused_is_not_flattened.ensures c.args.grammar.now) c.checked_form.result c.checked_form.ensures.normal c.checked_form.ensures.refused
