use Rattle.ts_node.proofs.LeavesLemmas.{gapless_leaf, gapless_extra, gapless_reduced, gapless_accepted}
use Rattle.ts_node.proofs.laws.made_nodes_are_gapless.Goals as goal

pub returns : goal.returns
returns c = record {
  leaf = gapless_leaf;
  extra = gapless_extra;
  reduced = gapless_reduced;
  accepted = gapless_accepted;
}
