use Rattle.std.proofs.Common.{subst, List}
use Rattle.spec_trees.specs.declared.visible.VisibleNode.{VisibleNode}
use Rattle.spec_trees.specs.VisibleNodes.{visible_nodes}
use Rattle.ts_client.proofs.SpreadLemmas.{Belong, all_belong}
use Rattle.ts_client.proofs.spreading.found_at_once.Goals as goal

pub returns : goal.returns
returns g c =
    let nodes = visible_nodes (g.F.Finder.form c.args.finder.now) c.requires.tree.tree in
    let belong = subst (λ (ns : List VisibleNode). Belong (g.F.Finder.finds_one c.args.finder.now c.args.text.now ns) c.args.numbers.now c.in_ok-places.places.items)
    c.requires.tree.nodes_are c.in_ok-places.ensures.each in
    all_belong (g.F.Finder.finds_one c.args.finder.now c.args.text.now nodes) c.args.numbers.now
    c.in_ok-places.places.items c.in_ok-places.ensures.count belong
    (g.F.Finder.finds c.args.finder.now c.args.text.now c.args.numbers.now)
    (λ results. c.found_one_by_one.ensures c.args.text.now c.requires.tree.tree c.args.numbers.now results c.requires.tree.fresh)
    c.all_found.result c.all_found.ensures
