use Rattle.ts_rules.specs.Sights.{seen_trees}
use Rattle.ts_normalise.proofs.CheckLemmas.{inside_none}
use Rattle.ts_normalise.proofs.trees.check_tokens.Goals as goal

pub returns-in-None-clause-none : goal.returns-in-None-clause-none
returns-in-None-clause-none c = λ g is. inside_none g (seen_trees c.args.walk.now) is c.in-None.ensures
