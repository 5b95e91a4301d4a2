use Rattle.ts_normalise.proofs.FitRefusalLemmas.{unrefused}
use Rattle.ts_normalise.proofs.FitStepLemmas.{fit_production}
use Rattle.ts_normalise.proofs.fit_laws.forms_have_fit_productions.Goals as goal

pub returns : goal.returns
returns c g f r p file flat w v = fit_production g f flat.normal file (unrefused g flat.accepted) r p w v
