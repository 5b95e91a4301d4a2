use Rattle.std.proofs.Common.{◌≤◌, subst, List, length, rules}
use Rattle.spec_trees.specs.declared.visible.VisibleNode.{VisibleNode}
use Rattle.spec_trees.specs.VisibleNodes.{visible_nodes}
use Rattle.ts_replay.proofs.FindLemmas.{Belong, next_found, all_found}
use Rattle.ts_replay.proofs.finding.found_each.Goals as goal

pub loop-number-preserved : goal.loop-number-preserved
loop-number-preserved g c = next_found (g.F.Finder.finds_one c.args.finder.now c.args.text.now c.args.tree.now) c.args.numbers.now c.loop-number.number-index 0
    c.loop-number.results c.push.new.self c.in_ok-find_one.field-0 c.loop-number-test.true c.loop-number.invariant c.in_ok-find_one.ensures c.in_ok-push.ensures.ok

pub returns : goal.returns
returns g c =
    let nodes = visible_nodes (g.F.Finder.form c.args.finder.now) c.requires.sight.tree in
    let past : length c.args.numbers.now ≤ c.loop-number.number-index = search rules in
    let belong = subst (λ (ns : List VisibleNode). Belong (g.F.Finder.finds_one c.args.finder.now c.args.text.now ns) c.args.numbers.now c.loop-number.results) c.requires.sight.nodes_are
    (all_found (g.F.Finder.finds_one c.args.finder.now c.args.text.now c.args.tree.now) c.args.numbers.now c.loop-number.number-index c.loop-number.results past c.loop-number.invariant) in
    c.found_one_by_one.ensures c.args.text.now c.requires.sight.tree c.args.numbers.now c.loop-number.results c.requires.sight.fresh belong.count belong.each
