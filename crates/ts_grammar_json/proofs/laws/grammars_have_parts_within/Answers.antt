use Rattle.ts_grammar_json.proofs.ShortLemmas.{short_grammar}
use Rattle.ts_grammar_json.proofs.laws.grammars_have_parts_within.Goals as goal

pub returns : goal.returns
returns c = short_grammar
