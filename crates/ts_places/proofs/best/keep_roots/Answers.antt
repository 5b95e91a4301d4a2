use Rattle.std.proofs.Common.{sym, subst, List, [], arith}
use Rattle.std.proofs.lemmas.List.Elements.{Contains-push}
use Rattle.std.proofs.lemmas.Option.{slice_get_within}
use Rattle.ts_graph.specs.declared.ways.Way.{Way}
use Rattle.ts_graph.specs.Ways.{ListsWays}
use Rattle.ts_places.proofs.SmallLemmas.{item_in}
use Rattle.ts_places.proofs.BestLemmas.{ways_none, ways_more, ways_all, can_take}
use Rattle.ts_places.proofs.best.keep_roots.Goals as goal

pub ways-requires : goal.ways-requires
ways-requires c = let r = c.requires in let a = r.2.each c.args.head (Contains-push [] c.args.head) in slice_get_within c.args.graph.now.heads c.args.head a.at.head a.at.is

pub loop-way-init : goal.loop-way-init
loop-way-init c = λ laws t text can form. ways_none laws t text c.args.graph.now can.sound c.args.size c.args.head c.args.best.now form

pub root_on-requires : goal.root_on-requires
root_on-requires c =
    let r = c.requires in
    let all = c.as_slice-way-items.result.now in
    let lists : ListsWays c.args.graph.now.links c.args.head 1 all = subst (λ (ws : List Way). ListsWays c.args.graph.now.links c.args.head 1 ws) (sym c.as_slice-way-items.ensures.value) c.in_ok-ways.ensures in
    (r.0, r.1, c.args.head, can_take r.0 r.1 c.args.graph.now c.args.size c.args.head r.2 all lists c.way-item.result (item_in all c.loop-way.way-index c.way-item.result c.loop-way-test.true c.way-item.is))

pub keep-requires : goal.keep-requires
keep-requires c =
    let r = c.requires in
    let all = c.as_slice-way-items.result.now in
    let lists : ListsWays c.args.graph.now.links c.args.head 1 all = subst (λ (ws : List Way). ListsWays c.args.graph.now.links c.args.head 1 ws) (sym c.as_slice-way-items.ensures.value) c.in_ok-ways.ensures in
    let take = can_take r.0 r.1 c.args.graph.now c.args.size c.args.head r.2 all lists c.way-item.result (item_in all c.loop-way.way-index c.way-item.result c.loop-way-test.true c.way-item.is) in
    let n = c.in_ok-node.ensures r.0 r.1 c.args.head take in
    record { form = (r.0.grammar, (c.loop-way.invariant c.end_laws_hold.ensures r.0 r.1 r.2 r.3).form, n.form) }

pub loop-way-preserved : goal.loop-way-preserved
loop-way-preserved c = λ laws t text can form.
    let all = c.as_slice-way-items.result.now in
    let lists : ListsWays c.args.graph.now.links c.args.head 1 all = subst (λ (ws : List Way). ListsWays c.args.graph.now.links c.args.head 1 ws) (sym c.as_slice-way-items.ensures.value) c.in_ok-ways.ensures in
    let take = can_take t text c.args.graph.now c.args.size c.args.head can all lists c.way-item.result (item_in all c.loop-way.way-index c.way-item.result c.loop-way-test.true c.way-item.is) in
    let r = c.in_ok-node.ensures t text c.args.head take in
    let before = c.loop-way.invariant laws t text can form in
    ways_more laws t text c.args.graph.now can.sound c.args.size c.args.head all c.loop-way.way-index c.way-item.result c.loop-way-test.true c.way-item.is c.args.best.now c.loop-way.best c.keep.new.best c.in_ok-node.node r c.keep.ensures.kept (c.keep.ensures.form t.grammar before.form r.form) before

pub returns : goal.returns
returns c = λ t text can form.
    let all = c.as_slice-way-items.result.now in
    let lists : ListsWays c.args.graph.now.links c.args.head 1 all = subst (λ (ws : List Way). ListsWays c.args.graph.now.links c.args.head 1 ws) (sym c.as_slice-way-items.ensures.value) c.in_ok-ways.ensures in
    ways_all c.end_laws_hold.ensures t text c.args.graph.now can.sound c.args.size c.args.head all c.loop-way.way-index c.args.best.now c.loop-way.best (let h = c.loop-way-test.false in omega arith) can.size_is lists (c.loop-way.invariant c.end_laws_hold.ensures t text can form)
