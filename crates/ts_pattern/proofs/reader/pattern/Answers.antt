use Rattle.ts_pattern.proofs.ReaderLemmas.{complete_is, exact_is}
use Rattle.ts_pattern.proofs.reader.pattern.Goals as goal

pub returns-clause-complete : goal.returns-clause-complete
returns-clause-complete c = complete_is c.read_source.result c.args.source.now c.args.ignore_case c.read_source.ensures.refused

pub returns-clause-exact : goal.returns-clause-exact
returns-clause-exact c f m g = exact_is c.read_source.result c.args.source.now c.args.ignore_case c.read_source.ensures.ok c.read_source.ensures.refused f m g
