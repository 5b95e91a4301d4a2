use Rattle.std.proofs.Common.{get_or, refl, arith}
use Rattle.ts_reductions.proofs.AddLemmas.{read_any, no_top, item_in}
use Rattle.ts_places.proofs.DueLemmas.{no_tops, tops_on, tops_end}
use Rattle.ts_places.proofs.seeking.add_dues.Goals as goal

pub loop-top-init : goal.loop-top-init
loop-top-init c = λ seek. no_tops c.args.table.now c.args.graph.now seek c.args.dues.now.items

pub add_top-requires : goal.add_top-requires
add_top-requires c =
    let x = get_or c.args.tops.now c.loop-top.top-index no_top in
    let low = c.loop-top-test.true in
    c.requires x (item_in c.args.tops.now c.args.tops.now c.loop-top.top-index x low (read_any c.args.tops.now c.loop-top.top-index no_top x low) refl)

pub loop-top-preserved : goal.loop-top-preserved
loop-top-preserved c = λ seek.
    let x = get_or c.args.tops.now c.loop-top.top-index no_top in
    let low = c.loop-top-test.true in
    tops_on c.args.table.now c.args.graph.now seek c.args.tops.now c.loop-top.top-index x c.args.dues.now.items c.loop-top.dues.items c.add_top.new.dues.items low (read_any c.args.tops.now c.loop-top.top-index no_top x low) (c.loop-top.invariant seek) (c.in_ok-add_top.ensures seek)

pub returns : goal.returns
returns c = λ seek.
    tops_end c.args.table.now c.args.graph.now seek c.args.tops.now c.loop-top.top-index c.args.dues.now.items c.loop-top.dues.items (let h = c.loop-top-test.false in omega arith) (c.loop-top.invariant seek)
