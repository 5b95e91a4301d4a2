use Rattle.ts_query_tree.proofs.ReaderLemmas.{complete_is, exact_is}
use Rattle.ts_query_tree.proofs.reader.read.Goals as goal

pub returns-clause-complete : goal.returns-clause-complete
returns-clause-complete c = complete_is c.args.text.now c.read_text.result c.read_text.ensures.refused

pub returns-clause-exact : goal.returns-clause-exact
returns-clause-exact c f m g = exact_is c.args.text.now c.read_text.result c.read_text.ensures.ok c.read_text.ensures.refused f m g
