use Rattle.ts_query_names.proofs.NameLemmas.{name_put}
use Rattle.ts_query_names.proofs.numbers.add_name.Goals as goal

pub returns : goal.returns
returns c = name_put c.args.found.now.keys _ c.args.name c.in_ok-insert.ensures.keys
