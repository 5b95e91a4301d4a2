use Rattle.ts_node.proofs.LeavesLemmas.{tree_spells}
use Rattle.ts_node.proofs.laws.leaves_spell_the_text.Goals as goal

pub returns : goal.returns
returns c = tree_spells
