use Rattle.ts_reductions.specs.Sound.{parsing_from}
use Rattle.ts_places.proofs.OpenLemmas.{short, shift_can, shift_done}
use Rattle.ts_places.proofs.shifting.shift.Goals as goal

pub leaf-node-requires-clause-past : goal.leaf-node-requires-clause-past
leaf-node-requires-clause-past c = c.requires.4.can.sight.past

pub leaf-node-requires-clause-short : goal.leaf-node-requires-clause-short
leaf-node-requires-clause-short c = let r = c.requires in short c.look_laws_hold.ensures c.leaf_laws_hold.ensures r.0 r.1 r.2 c.args.graph.now r.3 c.args.top c.args.span r.4.can

pub lay-requires : goal.lay-requires
lay-requires c =
    let r = c.requires in (
      parsing_from r.0 r.1 r.2,
      shift_can c.look_laws_hold.ensures c.leaf_laws_hold.ensures r.0 r.1 r.2 c.args.graph.now r.3 c.args.top c.args.span r.4.can c.args.state r.4.actions r.4.have r.4.shifts c.leaf-node.result c.leaf-node.ensures.node c.nodes.ensures.node,
    )

pub returns : goal.returns
returns c = λ t text base look can.
    shift_done c.look_laws_hold.ensures c.leaf_laws_hold.ensures t text base c.args.graph.now look c.args.top c.args.span can.can c.args.state can.actions can.have can.shifts c.leaf-node.result c.leaf-node.ensures.node c.nodes.ensures.node
    c.lay.new.graph c.in_ok-lay.field-0
    (c.in_ok-lay.ensures (parsing_from t text base) (shift_can c.look_laws_hold.ensures c.leaf_laws_hold.ensures t text base c.args.graph.now look c.args.top c.args.span can.can c.args.state can.actions can.have can.shifts c.leaf-node.result c.leaf-node.ensures.node c.nodes.ensures.node))
