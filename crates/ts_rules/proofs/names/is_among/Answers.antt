use Rattle.ts_rules.proofs.FirstSightLemmas.{among_told}
use Rattle.ts_rules.proofs.names.is_among.Goals as goal

pub returns : goal.returns
returns c = among_told c.args.name.now c.args.names.now.keys c.contains.result c.contains.ensures
