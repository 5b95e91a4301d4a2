use Rattle.std.proofs.Common.{arith}
use Rattle.ts_search.proofs.ChildLemmas.{listed_none, listed_more, listed_all}
use Rattle.ts_search.proofs.sight.Sight.children.Goals as goal

pub loop-m-init : goal.loop-m-init
loop-m-init c = rw c.in_ok-children.ensures (listed_none c.args.self.now.nodes c.args.n c.past-past.result c.past-past.ensures)

pub past-m-requires : goal.past-m-requires
past-m-requires c = let w = c.past-past.ensures.within in omega (arith, c.loop-m-test.true)

pub loop-m-smaller : goal.loop-m-smaller
loop-m-smaller c = let l = c.past-m.ensures.later in omega (arith, c.loop-m-test.true)

pub loop-m-preserved : goal.loop-m-preserved
loop-m-preserved c = listed_more c.args.self.now.nodes c.args.n c.loop-m.m c.past-past.result c.past-m.result c.loop-m.children.items c.push.new.self.items c.in_ok-push.ensures.items c.loop-m-test.true c.past-past.ensures c.past-m.ensures c.loop-m.invariant

pub returns : goal.returns
returns c = listed_all c.args.self.now.nodes c.args.n c.loop-m.m c.past-past.result c.loop-m.children.items (omega (arith, c.loop-m-test.false)) c.past-past.ensures c.loop-m.invariant
