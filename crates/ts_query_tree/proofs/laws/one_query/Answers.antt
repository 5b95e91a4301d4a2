use Rattle.ts_query_tree.proofs.LawLemmas.{one_text, one_read}
use Rattle.ts_query_tree.proofs.laws.one_query.Goals as goal

pub returns-clause-spelled : goal.returns-clause-spelled
returns-clause-spelled c p q w a b = one_text w p q a b

pub returns-clause-read : goal.returns-clause-read
returns-clause-read c x y w a b = one_read w x y a b
