use Rattle.std.proofs.Common.{true, drop}
use Rattle.spec_lexing.proofs.LocalLemmas.{ending, found_same}
use Rattle.spec_lexing.proofs.laws.seen_decides.Goals as goal

pub returns : goal.returns
returns c g valid text other place at n f utf8 seen agree x =
    found_same g valid true (drop place text) f x (drop at other) n (ending text place utf8) seen agree
