use Rattle.ts_pattern.specs.Reads.{Reads}
use Rattle.ts_form.proofs.NormalLemmas.{one_form}
use Rattle.ts_form.proofs.laws.normal_forms_agree.Goals as goal

pub returns : goal.returns
returns c g f h defined a b = one_form Reads c.one_pattern.ensures g f h defined a b
