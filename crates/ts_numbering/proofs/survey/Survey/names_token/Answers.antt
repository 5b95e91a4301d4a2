use Rattle.ts_numbering.specs.Keys.{rules_told}
use Rattle.ts_numbering.proofs.GrammarLemmas.{named_test}
use Rattle.ts_numbering.proofs.SurveyLemmas.{name_found}
use Rattle.ts_numbering.proofs.survey.Survey.names_token.Goals as goal

pub returns : goal.returns
returns c g is = named_test g (rules_told c.args.self.now.named.entries) c.args.name.now c.contains_key.result is.named (name_found c.args.self.now.named.entries c.args.name.now c.contains_key.result c.contains_key.ensures)
