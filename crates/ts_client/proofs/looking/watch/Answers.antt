use Rattle.std.proofs.Common.{◌∙◌, arith}
use Rattle.ts_client.proofs.LookLemmas.{turned_same, same_pass_chain}
use Rattle.ts_client.proofs.DeskLemmas.{first_look, next_look}
use Rattle.ts_client.proofs.looking.watch.Goals as goal

pub loop-init : goal.loop-init
loop-init g c = record {
  shelf = c.look.ensures.shelf;
  pass = c.look.ensures.pass;
  same = turned_same _ _ _ _ _ c.in_ok-seen.ensures.looked.turned;
  offers = (let o = c.in_ok-seen.ensures.looked.turned.offers in omega (arith, o));
  saw = first_look c.args.pass.now.knows c.look.new.pass.knows c.in_ok-seen.seen c.in_ok-seen.ensures.looked c.in_ok-seen.ensures.latest;
}

pub loop-preserved : goal.loop-preserved
loop-preserved g c = record {
  shelf = c.look-in-loop.ensures.shelf ∙ c.loop.invariant.shelf;
  pass = c.look-in-loop.ensures.pass;
  same = same_pass_chain c.args.pass.now.knows c.loop.pass.knows c.look-in-loop.new.pass.knows c.loop.invariant.same (turned_same _ _ _ _ _ c.in_ok-seen-2.ensures.looked.turned);
  offers = (let o = c.in_ok-seen-2.ensures.looked.turned.offers in let i = c.loop.invariant.offers in omega (arith, o, i));
  saw = next_look c.args.pass.now.knows c.loop.pass.knows c.look-in-loop.new.pass.knows c.loop.counter c.loop.seen c.in_ok-seen-2.seen c.loop.invariant.saw
      c.in_ok-seen-2.ensures.looked c.in_ok-seen-2.ensures.latest;
}
