use Rattle.std.proofs.Common.{◌∙◌, sym}
use Rattle.std.proofs.lemmas.Str.{length-encode}
use Rattle.spec_lexing.proofs.CharacterLemmas.{one_character_is}
use Rattle.spec_lexing.proofs.laws.one_character_at_a_time.Goals as goal

pub returns : goal.returns
returns c d more scalar utf8 = one_character_is d more scalar utf8 ∙ sym (length-encode d)
