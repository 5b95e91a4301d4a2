use Rattle.ts_normalise.proofs.FormLemmas.{owner_place, owner_there}
use Rattle.ts_normalise.proofs.accepted.owner_of.Goals as goal

pub get-requires : goal.get-requires
get-requires c = owner_place c.args.form.now c.args.rule.now.owner c.requires.owned.0 c.from.result c.len.result c.requires.owned.1 c.from.ensures c.len.ensures

pub returns : goal.returns
returns c = owner_there c.args.form.now c.args.rule.now.owner c.requires.owned.0 c.get.result.now c.from.result c.len.result c.requires.owned.1 c.from.ensures c.len.ensures c.get.ensures
