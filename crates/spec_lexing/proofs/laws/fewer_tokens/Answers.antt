use Rattle.std.proofs.Common.{true, refl}
use Rattle.spec_lexing.specs.Lexing.{token}
use Rattle.spec_lexing.proofs.WithinLemmas.{found_fewer}
use Rattle.spec_lexing.proofs.laws.fewer_tokens.Goals as goal

pub returns : goal.returns
returns c g valid fewer rest s pad size subset one x = found_fewer g valid fewer subset s one true rest (token s pad size) x refl
