use Rattle.std.proofs.Common.{get_or, ◌∙◌, arith}
use Rattle.std.proofs.lemmas.Option.{slice_get_within}
use Rattle.spec_graph.specs.Links.{way_trees}
use Rattle.ts_reductions.proofs.GatherLemmas.{at_step, at_long, trees_more, trees_end}
use Rattle.ts_places.proofs.roots.trees_up.Goals as goal

pub node-requires : goal.node-requires
node-requires c =
    let w = c.requires in
    let r = at_step c.args.graph.now.links c.args.numbers.now w.0 c.loop-number.number-index w.1 c.loop-number-test.true in
    slice_get_within c.args.graph.now.links (get_or c.args.numbers.now c.loop-number.number-index 0) r.link r.at

pub loop-number-preserved : goal.loop-number-preserved
loop-number-preserved c = λ way at.
    let s = at_step c.args.graph.now.links c.args.numbers.now way c.loop-number.number-index at c.loop-number-test.true in
    trees_more way c.loop-number.number-index s.link c.loop-number.nodes.items c.push.new.self.items (way_trees way) _ s.rest (c.in_ok-try_clone.ensures ∙ c.node.ensures s.link s.at) c.in_ok-push.ensures.items (c.loop-number.invariant way at)

pub returns : goal.returns
returns c = λ way at.
    let n = at_long c.args.graph.now.links c.args.numbers.now way at in
    let h = c.loop-number-test.false in
    trees_end way c.loop-number.number-index c.loop-number.nodes.items c.reverse.new.self.items (omega (arith, n, h)) (c.loop-number.invariant way at) c.reverse.ensures.items
