use Rattle.ts_front.proofs.LawLemmas.{complete_is, exact_is}
use Rattle.ts_front.proofs.grammar.read_grammar.Goals as goal

pub returns-clause-complete : goal.returns-clause-complete
returns-clause-complete c = complete_is (record { form = c.one_answer.ensures.form; fault = c.one_answer.ensures.fault; either = c.one_answer.ensures.either }) c.args.bytes.now c.form_of.result c.form_of.ensures.ok c.form_of.ensures.refused

pub returns-clause-exact : goal.returns-clause-exact
returns-clause-exact c = exact_is (record { form = c.one_answer.ensures.form; fault = c.one_answer.ensures.fault; either = c.one_answer.ensures.either }) c.args.bytes.now c.form_of.result c.form_of.ensures.ok c.form_of.ensures.refused
