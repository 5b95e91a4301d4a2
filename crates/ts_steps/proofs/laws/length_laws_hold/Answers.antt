use Rattle.ts_steps.proofs.laws.length_laws_hold.Goals as goal

pub returns : goal.returns
returns c = record {
  node = c.lengthened_is_node.ensures;
  over_extras = c.honest_stretches_lengthen.ensures.over_extras;
  on_stack = c.honest_stretches_lengthen.ensures.on_stack;
}
