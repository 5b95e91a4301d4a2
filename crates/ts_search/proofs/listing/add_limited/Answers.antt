use Rattle.ts_search.proofs.SingleLemmas.{single_hits}
use Rattle.ts_search.proofs.listing.add_limited.Goals as goal

pub returns-in-Some-clause-adds : goal.returns-in-Some-clause-adds
returns-in-Some-clause-adds g c =
    single_hits c.args.sight.now (g.K.Keep.kept c.args.keep.now) c.args.number c.in-Some.item.now c.args.pattern.now c.in-Some.ensures c.args.siblings.now _ _ _ _ c.in_ok-add_single.ensures.adds
