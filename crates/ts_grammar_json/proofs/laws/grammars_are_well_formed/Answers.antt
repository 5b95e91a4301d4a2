use Rattle.ts_grammar_json.proofs.WellFormedLemmas.{well_formed}
use Rattle.ts_grammar_json.proofs.laws.grammars_are_well_formed.Goals as goal

pub returns : goal.returns
returns c = well_formed
