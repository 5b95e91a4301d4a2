use Rattle.std.proofs.Common.{refl}
use Rattle.ts_node.proofs.LeafLemmas.{leaf_node, is_leaf}
use Rattle.ts_node.proofs.node.Node.leaf.Goals as goal

pub invariant_of-result : goal.invariant_of-result
invariant_of-result c = leaf_node _ c.requires.short (λ _. c.requires.past)

pub returns-clause-leaf : goal.returns-clause-leaf
returns-clause-leaf c = is_leaf _ _ refl
