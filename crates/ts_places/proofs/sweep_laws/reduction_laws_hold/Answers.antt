use Rattle.ts_places.proofs.sweep_laws.reduction_laws_hold.Goals as goal

pub returns-clause-due : goal.returns-clause-due
returns-clause-due c = record {
  keeps = c.bare_trees.ensures.keeps;
  reduced_bare = c.bare_trees.ensures.reduced;
  reduces = c.moves_have_their_place.ensures.reduce;
  repeats = c.repetitions_repeat.ensures;
  through = c.trees_replace.ensures.through;
  spans = c.runs_lay.ensures.spans;
  embeds = c.runs_lay.ensures.embeds;
  passes_same = c.extras_are_passed.ensures.same;
  shared = c.extras_are_passed.ensures.shared;
  again = c.tokens_are_seen_again.ensures;
  due = c.reductions_are_due.ensures;
  laid = c.reductions_are_laid.ensures.node;
  end = c.reductions_are_laid.ensures.end;
  depth = c.reductions_are_laid.ensures.depth;
  deepest = c.reductions_are_laid.ensures.deepest;
  extras = c.reductions_are_laid.ensures.extras;
  extra = c.new_heads_have_little.ensures.extra;
  none_behind = c.new_heads_have_little.ensures.none;
  late = c.new_heads_have_little.ensures.late;
  late_nodes = c.new_heads_have_little.ensures.late_nodes;
}

pub returns-clause-nodes : goal.returns-clause-nodes
returns-clause-nodes c = record {
  node = c.reduced_is_node_of_its_depth.ensures.node;
  depth = c.reduced_is_node_of_its_depth.ensures.depth;
  made = c.made_nodes_are_settled.ensures.reduced;
  form = c.made_nodes_are_in_form.ensures.reduced;
}
