use Rattle.std.proofs.Common.{◌∙◌, sym, length}
use Rattle.ts_reductions.proofs.AddLemmas.{meant_only, none_only, one_only}
use Rattle.ts_reductions.proofs.GrowLemmas.{place_is_at}
use Rattle.ts_reductions.proofs.asking.add_only.Goals as goal

pub head-requires : goal.head-requires
head-requires c = c.requires.2.there

pub returns-then-head-asked : goal.returns-then-head-asked
returns-then-head-asked c = λ text ready has.
    none_only c.args.table.now (length text) c.args.graph.now c.args.asked.batch c.args.mades.now.items c.args.asked.top c.args.asked.number has.count has.reduction c.args.links.now c.args.below has.only
    (λ e. c.if-head-asked.true (sym (place_is_at c.args.graph.now.heads c.args.below c.head.result c.head.ensures) ∙ e))

pub add_way-requires : goal.add_way-requires
add_way-requires c =
    let r = c.requires in
    (r.0, r.2.only.taken, r.1, r.2.only.at, meant_only c.args.table.now (length r.0) c.args.graph.now c.args.asked.batch c.args.mades.now.items c.args.asked.top c.args.asked.number r.2.count r.2.reduction c.args.links.now c.args.below r.2.only (place_is_at c.args.graph.now.heads c.args.below c.head.result c.head.ensures ∙ c.if-head-asked.false))

pub returns : goal.returns
returns c = λ text ready has.
    one_only c.args.table.now (length text) c.args.graph.now c.args.asked.batch c.args.mades.now.items c.args.asked.top c.args.asked.number has.count has.reduction c.args.links.now c.args.below has.only c.add_way.new.mades.items c.in_ok-more.more
    (c.in_ok-more.ensures text has.only.taken ready has.only.at (meant_only c.args.table.now (length text) c.args.graph.now c.args.asked.batch c.args.mades.now.items c.args.asked.top c.args.asked.number has.count has.reduction c.args.links.now c.args.below has.only (place_is_at c.args.graph.now.heads c.args.below c.head.result c.head.ensures ∙ c.if-head-asked.false)))
