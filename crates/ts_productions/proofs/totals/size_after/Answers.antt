use Rattle.std.proofs.Common.{refl}
use Rattle.ts_productions.specs.declared.weights.Weights.{Weights}
use Rattle.ts_productions.specs.Roots.{roots_of}
use Rattle.ts_productions.proofs.TotalLemmas.{agree_all}
use Rattle.ts_productions.proofs.SpreadSizeLemmas.{size_of_spread}
use Rattle.ts_productions.proofs.totals.size_after.Goals as goal

pub returns : goal.returns
returns c F full =
    let w : Weights = record { first = c.args.sources.now.first_inlined; sizes = c.args.sizes } in
    size_of_spread F w (roots_of c.args.sources.now) c.roots_size.result (agree_all c.args.sources.now F w (roots_of c.args.sources.now) refl full c.requires.ordered c.requires.sizes) c.roots_size.ensures.size
