use Rattle.spec_marked.proofs.SoundLemmas.{edits_sound, edits_text, edits_keep, edits_settled}
use Rattle.spec_marked.proofs.laws.edited_trees_are_sound.Goals as goal

pub returns-clause-sound : goal.returns-clause-sound
returns-clause-sound c g states text after tree left is whole edits sound = edits_sound c.laws_hold.ensures g states text tree after left edits is whole sound

pub returns-clause-offers : goal.returns-clause-offers
returns-clause-offers c g states text after tree left t place state is whole edits sound top =
    let laws = c.laws_hold.ensures in
    laws.honest g states after left t place state (edits_sound laws g states text tree after left edits is whole sound) top

pub returns-clause-is_text : goal.returns-clause-is_text
returns-clause-is_text c text after tree left is edits = edits_text c.laws_hold.ensures text tree after left edits is

pub returns-clause-whole : goal.returns-clause-whole
returns-clause-whole c text after tree left is whole short edits = (edits_keep c.laws_hold.ensures text tree after left edits is whole short).whole

pub returns-clause-settled : goal.returns-clause-settled
returns-clause-settled c text after tree left edits settled = edits_settled text tree after left edits settled
