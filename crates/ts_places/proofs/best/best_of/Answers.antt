use Rattle.std.proofs.Common.{get_or, None, arith}
use Rattle.ts_places.proofs.SmallLemmas.{read_any, item_in}
use Rattle.ts_places.proofs.BestLemmas.{roots_none, roots_more, best_on, can_one, no_form}
use Rattle.ts_places.proofs.best.best_of.Goals as goal

pub loop-head-init : goal.loop-head-init
loop-head-init c = λ t text can. roots_none c.end_laws_hold.ensures t text c.args.graph.now can.sound None (no_form t)

pub keep_roots-requires : goal.keep_roots-requires
keep_roots-requires c =
    let r = c.requires in
    let x = get_or c.args.heads.now c.loop-head.head-index 0 in
    let low = c.loop-head-test.true in
    let there = item_in c.args.heads.now c.loop-head.head-index x low (read_any c.args.heads.now c.loop-head.head-index 0 x low) in
    (r.0, r.1, can_one r.0 r.1 c.args.graph.now c.args.size c.args.heads.now r.2 x there, (c.loop-head.invariant r.0 r.1 r.2).form)

pub loop-head-preserved : goal.loop-head-preserved
loop-head-preserved c = λ t text can.
    let x = get_or c.args.heads.now c.loop-head.head-index 0 in
    let low = c.loop-head-test.true in
    let is = read_any c.args.heads.now c.loop-head.head-index 0 x low in
    let there = item_in c.args.heads.now c.loop-head.head-index x low is in
    let before = c.loop-head.invariant t text can in
    roots_more c.end_laws_hold.ensures t text c.args.graph.now can.sound c.args.heads.now c.loop-head.head-index x low is None c.loop-head.best c.keep_roots.new.best before
    (c.in_ok-keep_roots.ensures t text (can_one t text c.args.graph.now c.args.size c.args.heads.now can x there) before.form)

pub returns : goal.returns
returns c = λ t text can.
    best_on c.end_laws_hold.ensures t text c.args.graph.now can.sound c.args.size c.args.heads.now c.loop-head.head-index c.loop-head.best (let h = c.loop-head-test.false in omega arith) can (c.loop-head.invariant t text can)
