use Rattle.ts_normalise.proofs.RefusalLemmas.{one_refusal}
use Rattle.ts_normalise.proofs.laws.one_refusal.Goals as goal

pub returns : goal.returns
returns c g e h a b = one_refusal c.normal_forms_agree.ensures g c.one_fault.ensures e h a b
