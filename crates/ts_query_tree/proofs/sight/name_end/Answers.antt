use Rattle.ts_query_tree.proofs.WordLemmas.{name_there}
use Rattle.ts_query_tree.proofs.sight.name_end.Goals as goal

pub returns-clause-within : goal.returns-clause-within
returns-clause-within c = let n = name_there c.args.text.now c.args.at c.run.result c.utf8.text c.requires c.run.ensures.value c.run.ensures.within in (n.later, n.within)

pub returns-clause-from : goal.returns-clause-from
returns-clause-from c = (name_there c.args.text.now c.args.at c.run.result c.utf8.text c.requires c.run.ensures.value c.run.ensures.within).from

pub returns-clause-to : goal.returns-clause-to
returns-clause-to c = (name_there c.args.text.now c.args.at c.run.result c.utf8.text c.requires c.run.ensures.value c.run.ensures.within).to
