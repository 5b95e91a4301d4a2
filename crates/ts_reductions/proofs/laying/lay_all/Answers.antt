use Rattle.std.proofs.Common.{arith}
use Rattle.ts_reductions.proofs.ClimbLemmas.{all_begin, all_end, call_made, all_on}
use Rattle.ts_reductions.proofs.laying.lay_all.Goals as goal

pub loop-made-init : goal.loop-made-init
loop-made-init c = λ P look can. all_begin c.laws_hold.ensures P c.args.graph.now look c.args.mades.now can

pub lay_made-requires : goal.lay_made-requires
lay_made-requires c = let r = c.requires in (r.0, call_made c.laws_hold.ensures r.0 c.args.graph.now r.1 c.args.mades.now r.2 c.loop-made.graph c.loop-made.made-index c.made-item.result c.loop-made-test.true c.made-item.is (c.loop-made.invariant r.0 r.1 r.2))

pub loop-made-preserved : goal.loop-made-preserved
loop-made-preserved c = λ P look can. all_on c.laws_hold.ensures P c.args.graph.now look c.args.mades.now can c.loop-made.graph c.loop-made.made-index c.made-item.result c.loop-made-test.true c.made-item.is (c.loop-made.invariant P look can) c.lay_made.new.graph (c.in_ok-lay_made.ensures P (call_made c.laws_hold.ensures P c.args.graph.now look c.args.mades.now can c.loop-made.graph c.loop-made.made-index c.made-item.result c.loop-made-test.true c.made-item.is (c.loop-made.invariant P look can)))

pub returns : goal.returns
returns c = λ P look can. all_end c.laws_hold.ensures P c.args.graph.now look c.args.mades.now can c.loop-made.graph c.loop-made.made-index (let h = c.loop-made-test.false in omega arith) (c.loop-made.invariant P look can)
