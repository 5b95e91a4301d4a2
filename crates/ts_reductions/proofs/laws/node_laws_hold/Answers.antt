use Rattle.ts_reductions.proofs.laws.node_laws_hold.Goals as goal

pub returns : goal.returns
returns c = record {
  node = c.reduced_is_node_of_its_depth.ensures.node;
  depth = c.reduced_is_node_of_its_depth.ensures.depth;
  made = c.made_nodes_are_settled.ensures.reduced;
  form = c.made_nodes_are_in_form.ensures.reduced;
}
