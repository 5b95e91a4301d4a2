use Rattle.std.proofs.Common.{◌∙◌, ap, ℕ}
use Rattle.spec_trees.specs.declared.tree.Tree.{Tree}
use Rattle.ts_gss.specs.Stacks.{packed_layer}
use Rattle.ts_graph.specs.Under.{state_at}
use Rattle.ts_crossing.proofs.LeftLemmas.{above_low, state_is_at}
use Rattle.ts_crossing.proofs.leaving.piece_of.Goals as goal

pub state-requires : goal.state-requires
state-requires c = above_low c.args.graph.now.heads c.args.graph.now.links c.args.link c.requires c.count.ensures.once c.link-edge.result.above c.link-edge.ensures.above

pub returns : goal.returns
returns c = λ l at.
    ap (λ (t : Tree). packed_layer t c.state.result c.link-edge.result.depth) (c.in_ok-node.ensures ∙ c.node.ensures l at)
    ∙ ap (λ (s : ℕ). packed_layer l.tree s c.link-edge.result.depth)
    (state_is_at c.args.graph.now.heads c.link-edge.result.above c.state.result
    (above_low c.args.graph.now.heads c.args.graph.now.links c.args.link c.requires c.count.ensures.once c.link-edge.result.above c.link-edge.ensures.above) c.state.ensures
    ∙ ap (λ (n : ℕ). state_at c.args.graph.now.heads n) (c.link-edge.ensures.above l at))
    ∙ ap (λ (d : ℕ). packed_layer l.tree (state_at c.args.graph.now.heads l.above) d) (c.link-edge.ensures.depth l at)
