use Rattle.ts_normalise.proofs.RefusalLemmas.{one_flattening}
use Rattle.ts_normalise.proofs.laws.one_normal_form.Goals as goal

pub returns-clause-normal : goal.returns-clause-normal
returns-clause-normal c g f h defined a b = c.normal_forms_agree.ensures g f h defined a b

pub returns-clause-flattened : goal.returns-clause-flattened
returns-clause-flattened c g f h a b = one_flattening c.normal_forms_agree.ensures g f h a b
