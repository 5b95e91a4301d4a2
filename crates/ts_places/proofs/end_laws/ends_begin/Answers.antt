use Rattle.ts_places.proofs.OutcomeLemmas.{nothing_ended}
use Rattle.ts_places.proofs.end_laws.ends_begin.Goals as goal

pub returns : goal.returns
returns c t text g from ends none no_place = nothing_ended t text g from ends none no_place
