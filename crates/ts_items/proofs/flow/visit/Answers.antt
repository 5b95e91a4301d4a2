use Rattle.std.proofs.Common.{length}
use Rattle.std.proofs.lemmas.List.{take_all}
use Rattle.std.proofs.lemmas.List.Elements.{Contains-get_or}
use Rattle.ts_items.specs.Flow.{Brought}
use Rattle.ts_items.proofs.GainLemmas.{gains_begin, gains_more, gains_all, tells_none, tells_both}
use Rattle.ts_items.proofs.FlowLemmas.{edge_there}
use Rattle.ts_items.proofs.flow.visit.Goals as goal

pub loop-edge-init : goal.loop-edge-init
loop-edge-init c = record {
  gains = gains_begin (Brought c.args.gives.now c.args.from.now) c.args.edges.now c.args.sets.now;
  tells = tells_none c.args.sets.now c.args.queue.now.items;
}

pub hand-requires-clause-edge : goal.hand-requires-clause-edge
hand-requires-clause-edge c = edge_there c.args.gives.now (length c.args.sets.now) (length c.loop-edge.sets) _ c.loop-edge.invariant.gains.count (c.requires.edges _ (Contains-get_or c.args.edges.now c.loop-edge.edge-index _ c.loop-edge-test.true))

pub hand-requires-clause-wide : goal.hand-requires-clause-wide
hand-requires-clause-wide c = let w = c.requires.wide in (w.0, c.loop-edge.invariant.gains.wide w.0 w.1, w.2, w.3)

pub loop-edge-preserved : goal.loop-edge-preserved
loop-edge-preserved c = record {
  gains = gains_more (Brought c.args.gives.now c.args.from.now) c.args.edges.now c.loop-edge.edge-index _ c.args.sets.now c.loop-edge.sets c.hand.new.sets c.loop-edge-test.true c.loop-edge.invariant.gains c.in_ok-hand.ensures.gains;
  tells = tells_both c.args.sets.now c.loop-edge.sets c.hand.new.sets c.args.queue.now.items c.loop-edge.queue.items c.hand.new.queue.items c.loop-edge.invariant.gains.count c.loop-edge.invariant.tells c.in_ok-hand.ensures.tells;
}

pub returns-clause-gains : goal.returns-clause-gains
returns-clause-gains c = gains_all (Brought c.args.gives.now c.args.from.now) c.args.edges.now c.loop-edge.edge-index c.args.sets.now c.loop-edge.sets (take_all _ _ c.loop-edge-test.false) c.loop-edge.invariant.gains
