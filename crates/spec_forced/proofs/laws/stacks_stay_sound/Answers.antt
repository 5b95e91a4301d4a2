use Rattle.std.proofs.Common.{sym, subst, List}
use Rattle.spec_trees.specs.declared.tree.Tree.{Tree}
use Rattle.spec_trees.specs.declared.tree.Element.{Element}
use Rattle.spec_trees.specs.Trees.{symbol_of, children_of}
use Rattle.spec_forced.specs.Sound.{LaterStand, AllSound}
use Rattle.spec_forced.proofs.SoundLemmas.{sound_none, sound_one, stand_in_turn}
use Rattle.spec_forced.proofs.KeepLemmas.{reduced_on, accepted_sound}
use Rattle.spec_forced.proofs.laws.stacks_stay_sound.Goals as goal

pub returns-clause-childless : goal.returns-clause-childless
returns-clause-childless c g states text t place none plain own =
    sound_one g states text t place
    (λ state has. record {
      stands = λ settled. own state settled has;
      elements = subst (λ (es : List Element). LaterStand g states text place state (symbol_of t) es (children_of t)) (sym plain) tt;
    })
    (subst (λ (l : List Tree). AllSound g states text l place) (sym none) (sound_none g states text place))

pub returns-clause-in_turn : goal.returns-clause-in_turn
returns-clause-in_turn c g states text ts below each s = stand_in_turn g states text ts below each s

pub returns-clause-reduced : goal.returns-clause-reduced
returns-clause-reduced c g fit states text number left p children lifted below extent state valid at filled whole extras are shallow own s =
    reduced_on c.laws_hold.ensures g fit states text number left p at children below filled whole extent state lifted shallow own valid are lifted extras s

pub returns-clause-accepted : goal.returns-clause-accepted
returns-clause-accepted c g states text before after root extent whole s short = accepted_sound g states text before after root extent whole s short
