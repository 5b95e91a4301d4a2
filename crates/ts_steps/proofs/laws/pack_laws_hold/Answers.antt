use Rattle.ts_steps.proofs.laws.pack_laws_hold.Goals as goal

pub returns : goal.returns
returns c = record {
  no_better = c.no_better_through.ensures;
  deep_served = c.ends_are_served.ensures.deep;
  stops_served = c.ends_are_served.ensures.stops;
  accepts_served = c.ends_are_served.ensures.accepts;
  run_served = c.runs_are_served.ensures.run;
  own = c.packed_stacks_follow.ensures.own;
  met = c.packed_stacks_follow.ensures.met;
  too_deep = c.packed_stacks_follow.ensures.deep;
  on = c.packed_stacks_follow.ensures.on;
  deep = c.packed_stacks_end.ensures.deep;
  stops = c.packed_stacks_end.ensures.stops;
  accepts = c.packed_stacks_end.ensures.accepts;
  once = c.one_packed_reduction.ensures;
  steps = c.readings_stand_alone.ensures.steps;
}
