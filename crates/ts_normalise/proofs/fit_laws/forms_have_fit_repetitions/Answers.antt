use Rattle.ts_normalise.proofs.FitRefusalLemmas.{unrefused}
use Rattle.ts_normalise.proofs.FitRepetitionLemmas.{fit_repetition}
use Rattle.ts_normalise.proofs.fit_laws.forms_have_fit_repetitions.Goals as goal

pub returns : goal.returns
returns c g f file flat place r at apart = fit_repetition g f flat.normal file (unrefused g flat.accepted) place r at apart
