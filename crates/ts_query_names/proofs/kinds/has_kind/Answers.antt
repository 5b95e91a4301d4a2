use Rattle.std.proofs.Common.{◌∙◌}
use Rattle.ts_query_names.specs.Kinds.{kind_eq}
use Rattle.ts_query_names.specs.LentNames.{kind_told}
use Rattle.ts_query_names.proofs.KindLemmas.{any_map}
use Rattle.ts_query_names.proofs.kinds.has_kind.Goals as goal

pub returns : goal.returns
returns c = c.contains.ensures ∙ any_map kind_told kind_eq (c.args.name.now, c.args.named) c.args.kinds.now.keys
