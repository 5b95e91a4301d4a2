use Rattle.ts_match.proofs.SceneLemmas.{with_parents}
use Rattle.ts_match.proofs.tree.VisibleTree.new.Goals as goal

pub invariant_of-result : goal.invariant_of-result
invariant_of-result c = with_parents c.args.grammar.now c.args.root.now c.nodes_have_parents.ensures.parent c.in_ok-cursor.cursor.nodes c.in_ok-cursor.ensures.nodes
