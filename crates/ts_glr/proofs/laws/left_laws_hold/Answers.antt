use Rattle.ts_glr.proofs.laws.left_laws_hold.Goals as goal

pub returns : goal.returns
returns c = record {
  keeps = c.bare_trees.ensures.keeps;
  rests = c.left_stacks_go_on.ensures.rests;
  own = c.left_stacks_go_on.ensures.own;
  stand = c.left_stacks_go_on.ensures.stand;
}
