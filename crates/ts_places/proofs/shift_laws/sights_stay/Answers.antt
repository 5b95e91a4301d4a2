use Rattle.ts_places.proofs.StayLemmas.{sights_still}
use Rattle.ts_places.proofs.shift_laws.sights_stay.Goals as goal

pub returns : goal.returns
returns c t text old new look heads s keep a = sights_still t text old new keep look heads a.stand s a
