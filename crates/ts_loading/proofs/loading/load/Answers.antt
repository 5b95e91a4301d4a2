use Rattle.ts_loading.proofs.LoopLemmas.{all_read, all_grew}
use Rattle.ts_loading.proofs.loading.load.Goals as goal

pub returns-in-Ok-clause-loaded : goal.returns-in-Ok-clause-loaded
returns-in-Ok-clause-loaded g c = all_read c.args.grammar.now c.args.hosts.now c.args.texts.now c.read_all.new.queries (g.P.Patterns.sources c.args.patterns.now) (g.P.Patterns.sources c.read_all.new.patterns) c.in-Ok.ensures.read

pub returns-in-Ok-clause-few : goal.returns-in-Ok-clause-few
returns-in-Ok-clause-few g c = let are = c.in-Ok.ensures.read in are.few

pub returns-in-Ok-clause-built : goal.returns-in-Ok-clause-built
returns-in-Ok-clause-built g c = all_grew c.args.grammar.now c.args.hosts.now c.args.texts.now c.read_all.new.queries (g.P.Patterns.sources c.args.patterns.now) (g.P.Patterns.sources c.read_all.new.patterns) c.in-Ok.ensures.read
