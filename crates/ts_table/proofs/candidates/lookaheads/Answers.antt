use Rattle.std.proofs.lemmas.List.{take_all}
use Rattle.ts_table.proofs.SetLemmas.{after_none, after_more, after_all}
use Rattle.ts_table.proofs.candidates.lookaheads.Goals as goal

pub loop-part-init : goal.loop-part-init
loop-part-init c = record {
  members = after_none c.args.pool.now.keys c.args.parts.now c.in_ok-found.found c.in_ok-found.ensures.empty;
  wide = c.in_ok-found.ensures.wide;
}

pub loop-part-preserved : goal.loop-part-preserved
loop-part-preserved c = record {
  members = after_more c.args.pool.now.keys c.args.parts.now c.loop-part.part-index _ c.loop-part.found c.add_set.new.found c.loop-part-test.true c.add_set.ensures.members c.loop-part.invariant.members;
  wide = c.add_set.ensures.wide c.args.width c.loop-part.invariant.wide c.requires;
}

pub returns : goal.returns
returns c = after_all c.args.pool.now.keys c.args.parts.now c.loop-part.found c.loop-part.part-index (take_all _ _ c.loop-part-test.false) c.loop-part.invariant.members
