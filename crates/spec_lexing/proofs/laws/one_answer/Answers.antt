use Rattle.std.proofs.Common.{true}
use Rattle.spec_lexing.proofs.OneLemmas.{one_found, one_seen}
use Rattle.spec_lexing.proofs.laws.one_answer.Goals as goal

pub returns-clause-lex : goal.returns-clause-lex
returns-clause-lex c g valid rest f h x y = one_found g valid true rest f h x y

pub returns-clause-seen : goal.returns-clause-seen
returns-clause-seen c g valid rest n m x y = one_seen g valid true rest n m x y
