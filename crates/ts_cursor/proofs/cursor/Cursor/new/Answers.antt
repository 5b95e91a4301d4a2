use Rattle.std.proofs.Common.{◌≡◌, ℕ, sym, subst, List}
use Rattle.ts_core.specs.declared.flat.FlatGrammar.{FlatGrammar}
use Rattle.spec_trees.specs.declared.tree.Tree.{Tree}
use Rattle.spec_trees.specs.declared.visible.VisibleNode.{VisibleNode}
use Rattle.spec_trees.specs.Trees.{tree_depth}
use Rattle.spec_trees.specs.VisibleNodes.{visible_nodes}
use Rattle.spec_trees.specs.Family.{depth_at}
use Rattle.ts_cursor.specs.Linked.{DepthsRise, AreShallow}
use Rattle.ts_cursor.proofs.ShapeLemmas.{root_first, depths_rise, depths_below}
use Rattle.ts_cursor.proofs.cursor.Cursor.new.Goals as goal

pub over-requires-clause-root : goal.over-requires-clause-root
over-requires-clause-root c =
    let g : FlatGrammar = c.in_ok-steps.steps in
    let t : Tree = c.args.root.now in
    let e : c.in_ok-nodes.nodes ≡ visible_nodes g t = c.in_ok-nodes.ensures.nodes in
    subst (λ (ns : List VisibleNode). depth_at ns 0 ≡ 0) (sym e) (root_first g t)

pub over-requires-clause-rise : goal.over-requires-clause-rise
over-requires-clause-rise c =
    let g : FlatGrammar = c.in_ok-steps.steps in
    let t : Tree = c.args.root.now in
    let e : c.in_ok-nodes.nodes ≡ visible_nodes g t = c.in_ok-nodes.ensures.nodes in
    subst (λ (ns : List VisibleNode). DepthsRise ns) (sym e) (depths_rise g t)

pub over-requires-clause-shallow : goal.over-requires-clause-shallow
over-requires-clause-shallow c =
    let g : FlatGrammar = c.in_ok-steps.steps in
    let t : Tree = c.args.root.now in
    let e : c.in_ok-nodes.nodes ≡ visible_nodes g t = c.in_ok-nodes.ensures.nodes in
    let d : c.depth.result ≡ tree_depth t = c.depth.ensures in
    subst (λ (n : ℕ). AreShallow n c.in_ok-nodes.nodes) (sym d) (subst (λ (ns : List VisibleNode). AreShallow (tree_depth t) ns) (sym e) (depths_below g t))
