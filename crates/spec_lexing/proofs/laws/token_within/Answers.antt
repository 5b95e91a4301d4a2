use Rattle.std.proofs.Common.{true}
use Rattle.spec_lexing.specs.Lexing.{token, absent}
use Rattle.spec_lexing.proofs.WithinLemmas.{end_seen, end_within}
use Rattle.spec_lexing.proofs.laws.token_within.Goals as goal

pub returns-clause-seen : goal.returns-clause-seen
returns-clause-seen c g valid rest s pad size n x seen = end_seen g valid true rest (token s pad size) n x seen

pub returns-clause-text : goal.returns-clause-text
returns-clause-text c g valid rest s pad size x = end_within g valid true rest (token s pad size) x

pub returns-clause-absent : goal.returns-clause-absent
returns-clause-absent c g valid rest place x = end_within g valid true rest (absent place) x
