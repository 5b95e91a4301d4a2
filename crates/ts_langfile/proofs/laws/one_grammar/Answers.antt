use Rattle.ts_langfile.proofs.VerdictLemmas.{one_grammar}
use Rattle.ts_langfile.proofs.laws.one_grammar.Goals as goal

pub returns : goal.returns
returns c = λ f g w one two. one_grammar f g w one two
