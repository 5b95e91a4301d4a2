use Rattle.std.proofs.Common.{get_or, arith}
use Rattle.std.proofs.lemmas.Option.{slice_get_within}
use Rattle.ts_reductions.proofs.GatherLemmas.{at_step, at_long, depth_more, depth_end, shallow_first}
use Rattle.ts_reductions.proofs.gathering.deepest.Goals as goal

pub link-requires : goal.link-requires
link-requires c =
    let w = c.requires in
    let r = at_step c.args.graph.now.links c.args.numbers.now w.0 c.loop-number.number-index w.1 c.loop-number-test.true in
    slice_get_within c.args.graph.now.links (get_or c.args.numbers.now c.loop-number.number-index 0) r.link r.at

pub loop-number-preserved : goal.loop-number-preserved
loop-number-preserved c =
    let w = c.requires in
    let r = at_step c.args.graph.now.links c.args.numbers.now w.0 c.loop-number.number-index w.1 c.loop-number-test.true in
    record {
      depth_is = λ way at.
          let s = at_step c.args.graph.now.links c.args.numbers.now way c.loop-number.number-index at c.loop-number-test.true in
          depth_more way c.loop-number.number-index s.link c.loop-number.depth c.max-depth.result c.link.result.depth s.rest (c.link.ensures.depth s.link s.at) c.max-depth.ensures (c.loop-number.invariant.depth_is way at);
      shallow =
          let d = shallow_first w.0 c.loop-number.number-index r.link w.2 r.rest in
          let e = c.link.ensures.depth r.link r.at in
          let m = c.max-depth.ensures in
          let low = c.loop-number.invariant.shallow in
          omega (arith, d, e, m, low);
    }

pub returns-clause-depth : goal.returns-clause-depth
returns-clause-depth c = λ way at.
    let n = at_long c.args.graph.now.links c.args.numbers.now way at in
    let h = c.loop-number-test.false in
    depth_end way c.loop-number.number-index c.loop-number.depth (omega (arith, n, h)) (c.loop-number.invariant.depth_is way at)
