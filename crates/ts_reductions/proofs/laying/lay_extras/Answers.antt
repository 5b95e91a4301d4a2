use Rattle.std.proofs.Common.{◌+◌, drop, refl, arith}
use Rattle.std.proofs.lemmas.List.{drop_all}
use Rattle.spec_trees.specs.Trees.{all_spans}
use Rattle.ts_graph.specs.Down.{place_at}
use Rattle.ts_reductions.proofs.ClimbLemmas.{drop_item, climb_first, climb_call, climb_on, climb_last}
use Rattle.ts_reductions.proofs.laying.lay_extras.Goals as goal

pub loop-extra-init : goal.loop-extra-init
loop-extra-init c = λ P can. climb_first c.laws_hold.ensures P c.args.graph.now c.args.base c.args.extras.now c.args.state (place_at c.args.graph.now.heads c.args.base + all_spans c.args.extras.now) can refl

pub lay-requires : goal.lay-requires
lay-requires c =
    let r = c.requires in
    let d = drop_item c.args.extras.now c.loop-extra.extra-index c.extra-item.result c.loop-extra-test.true c.extra-item.is in (
      r.0,
      climb_call c.laws_hold.ensures r.0 c.args.graph.now c.loop-extra.graph c.args.base c.loop-extra.top r.1.read c.extra-item.result _ (drop c.loop-extra.extra-index c.args.extras.now) (drop (c.loop-extra.extra-index + 1) c.args.extras.now) c.args.state
          (place_at c.args.graph.now.heads c.args.base + all_spans c.args.extras.now) c.args.extras.now r.1.some d c.in_ok-try_clone.ensures (c.loop-extra.invariant r.0 r.1),
    )

pub loop-extra-preserved : goal.loop-extra-preserved
loop-extra-preserved c = λ P can.
    let d = drop_item c.args.extras.now c.loop-extra.extra-index c.extra-item.result c.loop-extra-test.true c.extra-item.is in
    let call = climb_call c.laws_hold.ensures P c.args.graph.now c.loop-extra.graph c.args.base c.loop-extra.top can.read c.extra-item.result _ (drop c.loop-extra.extra-index c.args.extras.now) (drop (c.loop-extra.extra-index + 1) c.args.extras.now) c.args.state
    (place_at c.args.graph.now.heads c.args.base + all_spans c.args.extras.now) c.args.extras.now can.some d c.in_ok-try_clone.ensures (c.loop-extra.invariant P can) in
    climb_on c.laws_hold.ensures P c.args.graph.now c.loop-extra.graph c.args.base c.loop-extra.top can.read c.extra-item.result _ (drop c.loop-extra.extra-index c.args.extras.now) (drop (c.loop-extra.extra-index + 1) c.args.extras.now) c.args.state
    (place_at c.args.graph.now.heads c.args.base + all_spans c.args.extras.now) c.args.extras.now can.some d c.in_ok-try_clone.ensures (c.loop-extra.invariant P can) c.lay.new.graph c.in_ok-top.top (c.in_ok-top.ensures P call)

pub returns : goal.returns
returns c = λ P can.
    climb_last c.laws_hold.ensures P c.args.graph.now c.loop-extra.graph c.args.base c.loop-extra.top can.read (drop c.loop-extra.extra-index c.args.extras.now) c.args.state (place_at c.args.graph.now.heads c.args.base + all_spans c.args.extras.now) c.args.extras.now
    (drop_all c.loop-extra.extra-index c.args.extras.now (let h = c.loop-extra-test.false in omega arith)) (c.loop-extra.invariant P can)
