use Rattle.ts_places.proofs.sweep_laws.graph_laws_hold.Goals as goal

pub returns-clause-laying : goal.returns-clause-laying
returns-clause-laying c = record {
  keeps = c.bare_trees.ensures.keeps;
  same = c.trees_replace.ensures.same;
  through = c.trees_replace.ensures.through;
  both = c.trees_replace.ensures.both;
  alike = c.links_pack.ensures.alike;
  either = c.links_pack.ensures.either;
  deep = c.links_pack.ensures.deep;
  embeds = c.runs_lay.ensures.embeds;
  passes_tree = c.extras_are_passed.ensures.tree;
  passes_same = c.extras_are_passed.ensures.same;
}

pub returns-clause-leaves : goal.returns-clause-leaves
returns-clause-leaves c = record {
  keeps = c.bare_trees.ensures.keeps;
  extra = c.bare_trees.ensures.extra;
  same = c.trees_replace.ensures.same;
  through = c.trees_replace.ensures.through;
  shifts = c.moves_have_their_place.ensures.shift;
  low = c.stacks_are_grounded.ensures.low;
  embeds = c.runs_lay.ensures.embeds;
}
