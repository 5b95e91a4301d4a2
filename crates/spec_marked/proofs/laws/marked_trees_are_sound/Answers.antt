use Rattle.spec_marked.proofs.LayerLemmas.{root_unsettled}
use Rattle.spec_marked.proofs.BytesLemmas.{stands_moved}
use Rattle.spec_marked.proofs.SoundLemmas.{may_mark, stays_sound}
use Rattle.spec_marked.proofs.laws.marked_trees_are_sound.Goals as goal

pub returns-clause-may_be_marked : goal.returns-clause-may_be_marked
returns-clause-may_be_marked c g states text edit tree is range fits sound = may_mark text edit (record { is_text = is; in_range = range; fits = fits }) tree sound.short

pub returns-clause-moves : goal.returns-clause-moves
returns-clause-moves c g states text edit place state t range unmet stands = stands_moved c.laws_hold.ensures g states text edit place state t range unmet stands

pub returns-clause-sound : goal.returns-clause-sound
returns-clause-sound c g states text edit tree is range fits whole sound = stays_sound c.laws_hold.ensures g states text edit (record { is_text = is; in_range = range; fits = fits }) tree whole sound

pub returns-clause-unsettled : goal.returns-clause-unsettled
returns-clause-unsettled c edit tree = root_unsettled edit tree
