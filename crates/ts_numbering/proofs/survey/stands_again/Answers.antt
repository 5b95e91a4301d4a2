use Rattle.ts_numbering.proofs.SurveyLemmas.{among_trees}
use Rattle.ts_numbering.proofs.survey.stands_again.Goals as goal

pub returns : goal.returns
returns c = among_trees c.args.tokens.now.again.keys c.args.tree.now c.contains.result c.contains.ensures
