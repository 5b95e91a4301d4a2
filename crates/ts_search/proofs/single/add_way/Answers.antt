use Rattle.ts_search.proofs.SingleLemmas.{way_hit}
use Rattle.ts_search.proofs.single.add_way.Goals as goal

pub returns-clause-adds : goal.returns-clause-adds
returns-clause-adds g c = way_hit (g.K.Keep.kept c.args.keep.now) c.args.pattern c.args.n c.args.captures c.in_order-captures.result c.one_order.ensures.captures c.in_order-captures.ensures.members c.in_order-captures.ensures.order _ _ c.in_ok-put_kept.ensures.adds
