use Rattle.std.proofs.Common.{refl}
use Rattle.ts_productions.specs.Roots.{whole_all, roots_of, before_of}
use Rattle.ts_productions.proofs.TotalLemmas.{size_append, unit_size}
use Rattle.ts_productions.proofs.totals.size_before.Goals as goal

pub returns-clause-many : goal.returns-clause-many
returns-clause-many c =
    (unit_size _ (before_of c.args.sources.now) c.both.result refl
    (size_append _ (whole_all c.args.sources.now.inlined.now) (roots_of c.args.sources.now) c.trees_size.result c.roots_size.result c.both.result c.trees_size.ensures.size c.roots_size.ensures.size c.both.ensures.many c.both.ensures.longest)).0

pub returns-clause-longest : goal.returns-clause-longest
returns-clause-longest c =
    (unit_size _ (before_of c.args.sources.now) c.both.result refl
    (size_append _ (whole_all c.args.sources.now.inlined.now) (roots_of c.args.sources.now) c.trees_size.result c.roots_size.result c.both.result c.trees_size.ensures.size c.roots_size.ensures.size c.both.ensures.many c.both.ensures.longest)).1
