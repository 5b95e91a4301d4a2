use Rattle.std.proofs.Common.{get_or, ◌∙◌, sym, ap, arith}
use Rattle.std.proofs.lemmas.Option.{slice_get_within}
use Rattle.spec_trees.specs.Trees.{is_extra_node}
use Rattle.ts_reductions.proofs.GatherLemmas.{at_step, at_long, lifted_more, lifted_stop, lifted_end}
use Rattle.ts_reductions.proofs.gathering.lifted.Goals as goal

pub node-requires : goal.node-requires
node-requires c =
    let w = c.requires in
    let r = at_step c.args.graph.now.links c.args.numbers.now w.0 c.loop-number.number-index w.1 c.loop-number-test.true in
    slice_get_within c.args.graph.now.links (get_or c.args.numbers.now c.loop-number.number-index 0) r.link r.at

pub loop-number-preserved : goal.loop-number-preserved
loop-number-preserved c = record {
  count_is = let i = c.loop-number.invariant.count_is in omega (arith, i);
  lifted = λ way at.
      let s = at_step c.args.graph.now.links c.args.numbers.now way c.loop-number.number-index at c.loop-number-test.true in
      let e = ap is_extra_node (sym (c.node.ensures s.link s.at)) ∙ sym c.extra.ensures ∙ c.if-not-extra.false in
      lifted_more way c.loop-number.number-index s.link s.rest e (c.loop-number.invariant.lifted way at);
}

pub returns-then-not-extra : goal.returns-then-not-extra
returns-then-not-extra c = λ way at.
    let s = at_step c.args.graph.now.links c.args.numbers.now way c.loop-number.number-index at c.loop-number-test.true in
    let e = ap is_extra_node (sym (c.node.ensures s.link s.at)) ∙ sym c.extra.ensures ∙ c.if-not-extra.true in
    c.loop-number.invariant.count_is ∙ lifted_stop way c.loop-number.number-index s.link s.rest e (c.loop-number.invariant.lifted way at)

pub returns : goal.returns
returns c = λ way at.
    let n = at_long c.args.graph.now.links c.args.numbers.now way at in
    let h = c.loop-number-test.false in
    let i = c.loop-number.invariant.count_is in
    i ∙ lifted_end way c.loop-number.number-index (omega (arith, n, h)) (c.loop-number.invariant.lifted way at)
