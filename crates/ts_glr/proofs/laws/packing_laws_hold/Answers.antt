use Rattle.ts_glr.proofs.laws.packing_laws_hold.Goals as goal

pub returns : goal.returns
returns c = record {
  no_better = c.no_better_through.ensures;
  own = c.packed_stacks_follow.ensures.own;
  met = c.packed_stacks_follow.ensures.met;
  too_deep = c.packed_stacks_follow.ensures.deep;
  on = c.packed_stacks_follow.ensures.on;
  deep = c.packed_stacks_end.ensures.deep;
  stops = c.packed_stacks_end.ensures.stops;
  accepts = c.packed_stacks_end.ensures.accepts;
}
