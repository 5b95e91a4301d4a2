use Rattle.ts_places.proofs.shift_laws.leaf_laws_hold.Goals as goal

pub returns : goal.returns
returns c = record {
  keeps = c.bare_trees.ensures.keeps;
  extra = c.bare_trees.ensures.extra;
  same = c.trees_replace.ensures.same;
  through = c.trees_replace.ensures.through;
  shifts = c.moves_have_their_place.ensures.shift;
  low = c.stacks_are_grounded.ensures.low;
  embeds = c.runs_lay.ensures.embeds;
}
