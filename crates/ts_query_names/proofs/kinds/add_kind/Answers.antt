use Rattle.ts_query_names.proofs.KindLemmas.{kind_put}
use Rattle.ts_query_names.proofs.kinds.add_kind.Goals as goal

pub returns : goal.returns
returns c = kind_put c.args.found.now.keys _ (c.args.name, c.args.named) c.in_ok-insert.ensures.keys
