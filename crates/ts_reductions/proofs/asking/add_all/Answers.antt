use Rattle.std.proofs.Common.{sym, subst, ℕ, Bool, true, false, List, length, arith}
use Rattle.ts_graph.specs.Ways.{AreAt}
use Rattle.ts_reductions.specs.Asking.{Adds, OnWay}
use Rattle.ts_reductions.proofs.AddLemmas.{no_ways, way_listed, meant, ways_on, ways_end, deep_way}
use Rattle.ts_reductions.proofs.asking.add_all.Goals as goal

pub loop-way-init : goal.loop-way-init
loop-way-init c = λ text ready has. no_ways c.args.table.now (length text) c.args.graph.now c.args.asked.batch c.args.mades.now.items c.args.asked.top c.args.asked.number

pub add_way-requires : goal.add_way-requires
add_way-requires c =
    let text = c.requires.0 in
    let ready = c.requires.1 in
    let has = c.requires.2 in
    let x = way_listed c.args.table.now (length text) c.args.graph.now c.args.asked.batch c.args.mades.now.items c.args.asked.top c.args.asked.number has.count has.reduction c.args.ways.now has.lists c.loop-way.way-index c.way-item.result c.loop-way-test.true c.way-item.is in
    let asked = meant c.args.table.now (length text) c.args.graph.now c.args.asked.batch c.args.mades.now.items c.args.asked.top c.args.asked.number has.count has.reduction c.args.ways.now has.lists c.loop-way.way-index c.way-item.result c.loop-way-test.true c.way-item.is in
    (text, x.0, ready, subst (λ (ns : List ℕ). AreAt c.args.graph.now.links ns x.0) (sym c.as_slice-links.ensures) x.1, asked)

pub returns-then-not-branch : goal.returns-then-not-branch
returns-then-not-branch c = λ text ready has.
    let x = way_listed c.args.table.now (length text) c.args.graph.now c.args.asked.batch c.args.mades.now.items c.args.asked.top c.args.asked.number has.count has.reduction c.args.ways.now has.lists c.loop-way.way-index c.way-item.result c.loop-way-test.true c.way-item.is in
    let asked = meant c.args.table.now (length text) c.args.graph.now c.args.asked.batch c.args.mades.now.items c.args.asked.top c.args.asked.number has.count has.reduction c.args.ways.now has.lists c.loop-way.way-index c.way-item.result c.loop-way-test.true c.way-item.is in
    let step = c.in_ok-add_way.ensures text x.0 ready (subst (λ (ns : List ℕ). AreAt c.args.graph.now.links ns x.0) (sym c.as_slice-links.ensures) x.1) asked in
    let added : Adds c.args.table.now (length text) c.args.graph.now c.args.asked.batch (OnWay c.args.asked.top c.args.asked.number x.0 c.way-item.result.below) c.loop-way.mades.items c.add_way.new.mades.items false =
    subst (λ (b : Bool). Adds c.args.table.now (length text) c.args.graph.now c.args.asked.batch (OnWay c.args.asked.top c.args.asked.number x.0 c.way-item.result.below) c.loop-way.mades.items c.add_way.new.mades.items b) c.if-not-branch.true step in
    deep_way c.args.table.now (length text) c.args.graph.now c.args.asked.batch c.args.mades.now.items c.args.asked.top c.args.asked.number x.0 c.way-item.result.below added

pub loop-way-preserved : goal.loop-way-preserved
loop-way-preserved c = λ text ready has.
    let x = way_listed c.args.table.now (length text) c.args.graph.now c.args.asked.batch c.args.mades.now.items c.args.asked.top c.args.asked.number has.count has.reduction c.args.ways.now has.lists c.loop-way.way-index c.way-item.result c.loop-way-test.true c.way-item.is in
    let asked = meant c.args.table.now (length text) c.args.graph.now c.args.asked.batch c.args.mades.now.items c.args.asked.top c.args.asked.number has.count has.reduction c.args.ways.now has.lists c.loop-way.way-index c.way-item.result c.loop-way-test.true c.way-item.is in
    let step = c.in_ok-add_way.ensures text x.0 ready (subst (λ (ns : List ℕ). AreAt c.args.graph.now.links ns x.0) (sym c.as_slice-links.ensures) x.1) asked in
    let added : Adds c.args.table.now (length text) c.args.graph.now c.args.asked.batch (OnWay c.args.asked.top c.args.asked.number x.0 c.way-item.result.below) c.loop-way.mades.items c.add_way.new.mades.items true =
    subst (λ (b : Bool). Adds c.args.table.now (length text) c.args.graph.now c.args.asked.batch (OnWay c.args.asked.top c.args.asked.number x.0 c.way-item.result.below) c.loop-way.mades.items c.add_way.new.mades.items b) c.if-not-branch.false step in
    ways_on c.args.table.now (length text) c.args.graph.now c.args.asked.batch c.args.mades.now.items c.args.asked.top c.args.asked.number has.count has.reduction c.args.ways.now has.lists c.loop-way.way-index c.way-item.result c.loop-way-test.true c.way-item.is c.loop-way.mades.items c.add_way.new.mades.items (c.loop-way.invariant text ready has) added

pub returns : goal.returns
returns c = λ text ready has.
    ways_end c.args.table.now (length text) c.args.graph.now c.args.asked.batch c.args.mades.now.items c.args.asked.top c.args.asked.number has.count has.reduction c.args.ways.now has.lists c.loop-way.way-index c.loop-way.mades.items (let h = c.loop-way-test.false in omega arith) (c.loop-way.invariant text ready has)
