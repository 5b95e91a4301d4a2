use Rattle.ts_front.proofs.LanguageLemmas.{form_fit}
use Rattle.ts_front.proofs.laws.forms_are_fit.Goals as goal

pub returns : goal.returns
returns c = form_fit (record {
  file = c.read_grammars_are_file_grammars.ensures;
  within = c.grammars_have_parts_within.ensures;
  fit = c.normal_forms_are_fit.ensures;
})
