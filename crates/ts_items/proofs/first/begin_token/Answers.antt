use Rattle.ts_items.proofs.GainLemmas.{begin_gains}
use Rattle.ts_items.proofs.first.begin_token.Goals as goal

pub returns-clause-gains : goal.returns-clause-gains
returns-clause-gains c = begin_gains c.args.sets.now c.from.result c.from-2.result c.args.token c.index-sets-from.result c.insert.new.self c.from.ensures c.from-2.ensures c.requires.inside c.insert.ensures.members c.insert.ensures.wide
