use Rattle.std.proofs.lemmas.Result.{on_ok_weaker}
use Rattle.ts_items.proofs.FlowLemmas.{hand_some, hand_none}
use Rattle.ts_items.proofs.flow.hand.Goals as goal

pub returns-in-Some-clause-gains : goal.returns-in-Some-clause-gains
returns-in-Some-clause-gains c = on_ok_weaker c.join.result (hand_some c.args.gives.now c.args.from.now c.args.edge c.in-Some.symbol c.from.result c.index-gives-from.result c.args.sets.now c.join.new.sets c.in-Some.is c.from.ensures c.requires.edge.behind c.index-gives-from.is) c.join.ensures.gains

pub returns-in-None-clause-gains : goal.returns-in-None-clause-gains
returns-in-None-clause-gains c = on_ok_weaker c.join-in-None.result (hand_none c.args.gives.now c.args.from.now c.args.edge c.args.sets.now c.join-in-None.new.sets c.in-None.is) c.join-in-None.ensures.gains
