use Rattle.ts_numbering.specs.Keys.{rules_told}
use Rattle.ts_numbering.proofs.GrammarLemmas.{inlined_test}
use Rattle.ts_numbering.proofs.SurveyLemmas.{name_found}
use Rattle.ts_numbering.proofs.survey.Survey.is_inlined.Goals as goal

pub returns : goal.returns
returns c g is = inlined_test g (rules_told c.args.self.now.inlined.entries) c.args.name.now c.contains_key.result is.inlined (name_found c.args.self.now.inlined.entries c.args.name.now c.contains_key.result c.contains_key.ensures)
