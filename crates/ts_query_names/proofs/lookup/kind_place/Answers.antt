use Rattle.std.proofs.Common.{◌∙◌}
use Rattle.ts_query_names.specs.Kinds.{kind_eq}
use Rattle.ts_query_names.specs.LentNames.{kind_told}
use Rattle.ts_query_names.proofs.KindLemmas.{position_map}
use Rattle.ts_query_names.proofs.lookup.kind_place.Goals as goal

pub returns-clause-place : goal.returns-clause-place
returns-clause-place c = c.get_index_of.ensures.index ∙ position_map kind_told kind_eq (c.args.name.now, c.args.named) c.args.kinds.now.keys
