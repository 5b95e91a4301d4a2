use Rattle.ts_productions.specs.Roots.{whole_all, repeated_all}
use Rattle.ts_productions.proofs.TotalLemmas.{size_append, repeated_size}
use Rattle.ts_productions.proofs.totals.roots_size.Goals as goal

pub returns-clause-size : goal.returns-clause-size
returns-clause-size c =
    size_append c.args.weights.now (whole_all c.args.sources.now.rules.now) (repeated_all c.args.sources.now.first_repetition c.args.sources.now.contents.now) c.trees_size.result c.repeated_size.result c.both.result c.trees_size.ensures.size
    (repeated_size c.args.weights.now c.args.sources.now.first_repetition c.args.sources.now.contents.now c.filled_size.result c.repeated_size.result c.requires c.filled_size.ensures.size c.repeated_size.ensures.many c.repeated_size.ensures.none c.repeated_size.ensures.some)
    c.both.ensures.many c.both.ensures.longest
