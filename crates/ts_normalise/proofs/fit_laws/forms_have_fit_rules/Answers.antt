use Rattle.ts_normalise.proofs.FitRefusalLemmas.{unrefused}
use Rattle.ts_normalise.proofs.FitRuleLemmas.{fit_rule}
use Rattle.ts_normalise.proofs.fit_laws.forms_have_fit_rules.Goals as goal

pub returns : goal.returns
returns c g f k r file flat at = fit_rule g f flat.normal file (unrefused g flat.accepted) k r at
