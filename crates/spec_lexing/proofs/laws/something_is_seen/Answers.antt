use Rattle.std.proofs.Common.{suc, true, length, arith}
use Rattle.spec_lexing.proofs.SomeLemmas.{some_found}
use Rattle.spec_lexing.proofs.laws.something_is_seen.Goals as goal

pub returns : goal.returns
returns c g valid rest none = some_found g valid (suc (length rest)) true rest (omega arith) none
