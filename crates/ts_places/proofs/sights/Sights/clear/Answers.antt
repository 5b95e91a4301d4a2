use Rattle.std.proofs.Common.{refl}
use Rattle.ts_places.proofs.SightLemmas.{none_seen}
use Rattle.ts_places.proofs.sights.Sights.clear.Goals as goal

pub returns : goal.returns
returns c = λ t text g look. none_seen t text g look _ c.clear.ensures.items c.clear-2.ensures.items refl
