use Rattle.ts_query_tree.proofs.LawLemmas.{fault_or_read}
use Rattle.ts_query_tree.proofs.laws.refused_is_not_read.Goals as goal

pub returns : goal.returns
returns c e x w m a b = fault_or_read w e x m a b
