use Rattle.std.proofs.Common.{length}
use Rattle.ts_reductions.proofs.AddLemmas.{in_some, in_none, one_made, one_deep}
use Rattle.ts_reductions.proofs.asking.add_way.Goals as goal

pub returns-in_ok-push-in-Some : goal.returns-in_ok-push-in-Some
returns-in_ok-push-in-Some c = λ text links ready at asked.
    one_made c.args.table.now (length text) c.args.graph.now c.args.asked.batch c.args.mades.now.items c.args.asked.top c.args.asked.number links c.args.below c.in-Some.made c.push.new.self.items
    (in_some _ _ c.in_ok-made.field-0 c.in-Some.made c.in-Some.is (c.in_ok-made.ensures text links ready at asked)) c.in_ok-push-in-Some.ensures.items

pub returns-in-None : goal.returns-in-None
returns-in-None c = λ text links ready at asked.
    one_deep c.args.table.now (length text) c.args.graph.now c.args.asked.batch c.args.mades.now.items c.args.asked.top c.args.asked.number links c.args.below (in_none _ _ c.in_ok-made.field-0 c.in-None.is (c.in_ok-made.ensures text links ready at asked))
