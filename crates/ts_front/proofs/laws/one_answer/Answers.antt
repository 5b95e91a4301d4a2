use Rattle.ts_front.proofs.LawLemmas.{form_once, fault_once, refused_has_none}
use Rattle.ts_front.proofs.laws.one_answer.Goals as goal

pub returns : goal.returns
returns c = record {
  form = form_once c.parts.ensures;
  fault = fault_once c.parts.ensures;
  either = refused_has_none c.parts.ensures;
}
