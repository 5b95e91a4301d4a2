use Rattle.std.proofs.Common.{Bor}
use Rattle.ts_core.specs.declared.rule.Rule.{Rule}
use Rattle.ts_numbering.specs.Places.{same_tree}
use Rattle.ts_numbering.proofs.FirstSightLemmas.{key_seen}
use Rattle.ts_numbering.proofs.SameLemmas.{tree_same, tree_itself}
use Rattle.ts_numbering.proofs.gather.first_sights.Goals as goal

pub loop-tree-preserved : goal.loop-tree-preserved
loop-tree-preserved c =
    key_seen (λ (tree : Bor Rule). tree.now) same_tree tree_same tree_itself c.args.seen.now c.loop-tree.found.keys c.insert.new.self.keys c.loop-tree.tree-index c.tree-item.result c.loop-tree-test.true c.tree-item.is c.in_ok-insert.ensures.keys c.loop-tree.invariant
