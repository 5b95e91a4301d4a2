use Rattle.std.proofs.Common.{◌≡◌, ◌∙◌, subst}
use Rattle.std.proofs.lemmas.Option.{get_or_from_slice_get}
use Rattle.ts_rules.specs.Numbers.{outermost}
use Rattle.ts_rules.specs.declared.tree.Tree.{Tree}
use Rattle.ts_productions.specs.Roots.{whole}
use Rattle.ts_productions.specs.Sizes.{IsSizeBy}
use Rattle.ts_productions.proofs.TotalLemmas.{measure_size}
use Rattle.ts_productions.proofs.totals.place_size.Goals as goal

pub returns : goal.returns
returns c tree is =
    let same : c.index-trees-place.result ≡ tree = c.index-trees-place.is ∙ get_or_from_slice_get c.args.trees.now c.args.place tree c.index-trees-place.result is in
    subst (λ (t : Tree). IsSizeBy c.args.weights.now (whole t) c.size_of.result) same
    (measure_size c.args.weights.now (whole c.index-trees-place.result) c.measure_of.result c.size_of.result (c.measure_of.ensures.measure outermost) c.size_of.ensures.many c.size_of.ensures.longest)
