use Rattle.ts_items.proofs.GainLemmas.{join_gains, join_grows, join_stays}
use Rattle.ts_items.proofs.sets.join.Goals as goal

pub returns-in_ok-push-clause-gains : goal.returns-in_ok-push-clause-gains
returns-in_ok-push-clause-gains c = join_gains c.args.sets.now c.from.result c.args.symbol c.index-sets-from.result c.union_with.new.self c.args.more.now c.from.ensures c.requires.inside c.union_with.ensures.members c.union_with.ensures.wide c.requires.wide

pub returns-in_ok-push-clause-tells : goal.returns-in_ok-push-clause-tells
returns-in_ok-push-clause-tells c = join_grows c.args.sets.now c.from.result c.args.symbol c.union_with.new.self c.args.queue.now.items c.push.new.self.items c.from.ensures c.requires.inside c.in_ok-push.ensures.items

pub returns-else-union_with-clause-gains : goal.returns-else-union_with-clause-gains
returns-else-union_with-clause-gains c = join_gains c.args.sets.now c.from.result c.args.symbol c.index-sets-from.result c.union_with.new.self c.args.more.now c.from.ensures c.requires.inside c.union_with.ensures.members c.union_with.ensures.wide c.requires.wide

pub returns-else-union_with-clause-tells : goal.returns-else-union_with-clause-tells
returns-else-union_with-clause-tells c = join_stays c.args.sets.now c.from.result c.args.symbol c.index-sets-from.result c.union_with.new.self c.args.queue.now.items c.from.ensures c.requires.inside (c.union_with.ensures.same c.if-union_with.false)
