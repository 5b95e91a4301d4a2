use Rattle.std.proofs.Common.{sym, subst, Bool, true, false, List, [], length, get_or, refl, arith}
use Rattle.ts_reductions.specs.declared.made.Made.{Made}
use Rattle.ts_reductions.specs.Asking.{Adds, ByTop, ByTops}
use Rattle.ts_reductions.proofs.AddLemmas.{read_any, no_top, item_in, no_tops, tops_on, tops_end, deep_top, ready_at}
use Rattle.ts_reductions.proofs.asking.make_all.Goals as goal

pub loop-top-init : goal.loop-top-init
loop-top-init c = λ text base ready.
    subst (λ (l : List Made). Adds c.args.table.now (length text) c.args.graph.now c.args.batch (ByTops []) [] l true) (sym c.clear.ensures.items) (no_tops c.args.table.now (length text) c.args.graph.now c.args.batch [])

pub add_top-requires : goal.add_top-requires
add_top-requires c =
    let r = c.requires in
    (r.0, ready_at c.args.table.now r.0 r.1 c.args.setting.now c.args.graph.now c.args.batch c.args.tops.now r.2 (get_or c.args.tops.now c.loop-top.top-index no_top) (item_in c.args.tops.now c.args.tops.now c.loop-top.top-index (get_or c.args.tops.now c.loop-top.top-index no_top) c.loop-top-test.true (read_any c.args.tops.now c.loop-top.top-index no_top (get_or c.args.tops.now c.loop-top.top-index no_top) c.loop-top-test.true) refl))

pub returns-then-not-branch : goal.returns-then-not-branch
returns-then-not-branch c = λ text base ready.
    let there = item_in c.args.tops.now c.args.tops.now c.loop-top.top-index (get_or c.args.tops.now c.loop-top.top-index no_top) c.loop-top-test.true (read_any c.args.tops.now c.loop-top.top-index no_top (get_or c.args.tops.now c.loop-top.top-index no_top) c.loop-top-test.true) refl in
    let one = ready_at c.args.table.now text base c.args.setting.now c.args.graph.now c.args.batch c.args.tops.now ready (get_or c.args.tops.now c.loop-top.top-index no_top) there in
    let deep : Adds c.args.table.now (length text) c.args.graph.now c.args.batch (ByTop (get_or c.args.tops.now c.loop-top.top-index no_top)) c.loop-top.mades.items c.add_top.new.mades.items false =
    subst (λ (b : Bool). Adds c.args.table.now (length text) c.args.graph.now c.args.batch (ByTop (get_or c.args.tops.now c.loop-top.top-index no_top)) c.loop-top.mades.items c.add_top.new.mades.items b) c.if-not-branch.true (c.in_ok-add_top.ensures text one) in
    deep_top c.args.table.now (length text) c.args.graph.now c.args.batch [] c.args.tops.now (get_or c.args.tops.now c.loop-top.top-index no_top) there deep

pub loop-top-preserved : goal.loop-top-preserved
loop-top-preserved c = λ text base ready.
    let there = item_in c.args.tops.now c.args.tops.now c.loop-top.top-index (get_or c.args.tops.now c.loop-top.top-index no_top) c.loop-top-test.true (read_any c.args.tops.now c.loop-top.top-index no_top (get_or c.args.tops.now c.loop-top.top-index no_top) c.loop-top-test.true) refl in
    let one = ready_at c.args.table.now text base c.args.setting.now c.args.graph.now c.args.batch c.args.tops.now ready (get_or c.args.tops.now c.loop-top.top-index no_top) there in
    let added : Adds c.args.table.now (length text) c.args.graph.now c.args.batch (ByTop (get_or c.args.tops.now c.loop-top.top-index no_top)) c.loop-top.mades.items c.add_top.new.mades.items true =
    subst (λ (b : Bool). Adds c.args.table.now (length text) c.args.graph.now c.args.batch (ByTop (get_or c.args.tops.now c.loop-top.top-index no_top)) c.loop-top.mades.items c.add_top.new.mades.items b) c.if-not-branch.false (c.in_ok-add_top.ensures text one) in
    tops_on c.args.table.now (length text) c.args.graph.now c.args.batch [] c.args.tops.now c.loop-top.top-index (get_or c.args.tops.now c.loop-top.top-index no_top) c.loop-top.mades.items c.add_top.new.mades.items c.loop-top-test.true (read_any c.args.tops.now c.loop-top.top-index no_top (get_or c.args.tops.now c.loop-top.top-index no_top) c.loop-top-test.true) (c.loop-top.invariant text base ready) added

pub returns : goal.returns
returns c = λ text base ready.
    tops_end c.args.table.now (length text) c.args.graph.now c.args.batch [] c.args.tops.now c.loop-top.top-index c.loop-top.mades.items (let h = c.loop-top-test.false in omega arith) (c.loop-top.invariant text base ready)
