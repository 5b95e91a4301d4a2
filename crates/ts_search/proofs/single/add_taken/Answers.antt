use Rattle.ts_search.proofs.LimitLemmas.{taken_hits}
use Rattle.ts_search.proofs.single.add_taken.Goals as goal

pub returns-clause-adds : goal.returns-clause-adds
returns-clause-adds g c = taken_hits c.args.sight.now (g.K.Keep.kept c.args.keep.now) c.args.pattern c.args.item.now c.args.n _ _ c.in_ok-ways.ways.items _ _ c.in_ok-ways.ensures c.in_ok-add_ways.ensures.adds
