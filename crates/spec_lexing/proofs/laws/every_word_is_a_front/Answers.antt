use Rattle.spec_lexing.proofs.WordLemmas.{front_nothing, word_front}
use Rattle.spec_lexing.proofs.laws.every_word_is_a_front.Goals as goal

pub returns-clause-word : goal.returns-clause-word
returns-clause-word c = word_front

pub returns-clause-nothing : goal.returns-clause-nothing
returns-clause-nothing c = front_nothing
