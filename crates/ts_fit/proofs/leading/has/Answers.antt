use Rattle.ts_fit.proofs.GrowLemmas.{among}
use Rattle.ts_fit.proofs.leading.has.Goals as goal

pub returns : goal.returns
returns c = among c.args.place c.args.found.now.keys c.contains.result c.contains.ensures
