use Rattle.ts_normalise.proofs.FitLemmas.{fit}
use Rattle.ts_normalise.proofs.FitRefusalLemmas.{unrefused}
use Rattle.ts_normalise.proofs.fit_laws.normal_forms_are_fit.Goals as goal

pub returns : goal.returns
returns c g f file texts flat =
    let spelled = c.spellings_are_formed.ensures in
    fit g f flat.normal file (unrefused g flat.accepted) (record { short = spelled.short; ranges = spelled.ranges; counts = spelled.counts }) texts
