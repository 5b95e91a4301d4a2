use Rattle.spec_forced.proofs.SoundLemmas.{honest}
use Rattle.spec_forced.proofs.laws.sound_trees_offer_honestly.Goals as goal

pub returns : goal.returns
returns c = honest
