use Rattle.std.proofs.Common.{refl, arith}
use Rattle.std.proofs.lemmas.Option.{slice_get_read}
use Rattle.ts_search.proofs.IndexLemmas.{rooted_all, rooted_more, rooted_none}
use Rattle.ts_search.proofs.index.rooted.Goals as goal

pub loop-number-init : goal.loop-number-init
loop-number-init c = rooted_none c.args.patterns.now c.in_ok-all.all.items c.in_ok-all.ensures.items

pub loop-number-preserved : goal.loop-number-preserved
loop-number-preserved c =
    rooted_more c.args.patterns.now c.loop-number.number c.index-patterns-number.result c.root_of-root.result c.loop-number.all.items c.push.new.self.items
    (slice_get_read c.args.patterns.now _ c.loop-number.number c.index-patterns-number.result refl (omega (arith, c.loop-number-test.true)) c.index-patterns-number.is) c.root_of-root.ensures c.in_ok-push.ensures.items c.loop-number.invariant

pub returns : goal.returns
returns c = rooted_all c.args.patterns.now _ c.loop-number.number c.loop-number.all.items c.loop-number-test.false c.loop-number.invariant
