use Rattle.ts_query_tree.proofs.LawLemmas.{one_fault}
use Rattle.ts_query_tree.proofs.laws.one_fault.Goals as goal

pub returns : goal.returns
returns c e f w m n a b = one_fault w e f m n a b
