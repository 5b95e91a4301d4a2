use Rattle.spec_forced.proofs.OfferLemmas.{offers_stretch}
use Rattle.spec_forced.proofs.elements.sound_trees_offer_stretches.Goals as goal

pub returns : goal.returns
returns c g states text ts place at state from to u all there has counted later settled = offers_stretch g states text ts place at state from to u all there has counted later settled
