use Rattle.std.proofs.Common.{◌∙◌, ap}
use Rattle.ts_numbering.specs.Keys.{told_tree}
use Rattle.ts_numbering.proofs.SurveyLemmas.{tree_found}
use Rattle.ts_numbering.proofs.survey.Survey.named_token.Goals as goal

pub returns-in-Some : goal.returns-in-Some
returns-in-Some c = ap told_tree c.in-Some.ensures.value ∙ tree_found c.args.self.now.named.entries c.args.name.now

pub returns-in-None : goal.returns-in-None
returns-in-None c = ap told_tree c.in-None.ensures.value ∙ tree_found c.args.self.now.named.entries c.args.name.now
