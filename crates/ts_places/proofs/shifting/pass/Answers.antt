use Rattle.std.proofs.Common.{◌∙◌, ap}
use Rattle.spec_trees.specs.Made.{as_extra}
use Rattle.ts_reductions.specs.Sound.{parsing_from}
use Rattle.ts_places.proofs.OpenLemmas.{short, pass_can, pass_done}
use Rattle.ts_places.proofs.shifting.pass.Goals as goal

pub leaf-leaf-requires-clause-past : goal.leaf-leaf-requires-clause-past
leaf-leaf-requires-clause-past c = c.requires.4.can.sight.past

pub leaf-leaf-requires-clause-short : goal.leaf-leaf-requires-clause-short
leaf-leaf-requires-clause-short c = let r = c.requires in short c.look_laws_hold.ensures c.leaf_laws_hold.ensures r.0 r.1 r.2 c.args.graph.now r.3 c.args.top c.args.span r.4.can

pub lay-requires : goal.lay-requires
lay-requires c =
    let r = c.requires in (
      parsing_from r.0 r.1 r.2,
      pass_can c.look_laws_hold.ensures c.leaf_laws_hold.ensures r.0 r.1 r.2 c.args.graph.now r.3 c.args.top c.args.span r.4.can c.args.state r.4.head r.4.at r.4.state_is r.4.none c.as_extra-node.result (c.as_extra-node.ensures ∙ ap as_extra c.leaf-leaf.ensures.node) c.nodes.ensures.node,
    )

pub returns : goal.returns
returns c = λ t text base look can.
    pass_done c.look_laws_hold.ensures c.leaf_laws_hold.ensures t text base c.args.graph.now look c.args.top c.args.span can.can c.args.state can.head can.at can.state_is can.none c.as_extra-node.result (c.as_extra-node.ensures ∙ ap as_extra c.leaf-leaf.ensures.node) c.nodes.ensures.node
    c.lay.new.graph c.in_ok-lay.field-0
    (c.in_ok-lay.ensures (parsing_from t text base) (pass_can c.look_laws_hold.ensures c.leaf_laws_hold.ensures t text base c.args.graph.now look c.args.top c.args.span can.can c.args.state can.head can.at can.state_is can.none c.as_extra-node.result (c.as_extra-node.ensures ∙ ap as_extra c.leaf-leaf.ensures.node) c.nodes.ensures.node))
