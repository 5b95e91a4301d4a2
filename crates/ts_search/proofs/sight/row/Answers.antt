use Rattle.ts_search.proofs.RowLemmas.{node_is}
use Rattle.ts_search.proofs.sight.row.Goals as goal

pub returns : goal.returns
returns c = node_is _ _ _ _ _ _ _ c.depth_at.ensures c.name_at.ensures c.named_at.ensures c.fields_at.ensures c.start_at.ensures c.end_at.ensures
