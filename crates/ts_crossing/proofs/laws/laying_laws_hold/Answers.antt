use Rattle.ts_crossing.proofs.laws.laying_laws_hold.Goals as goal

pub returns : goal.returns
returns c = record {
  keeps = c.bare_trees.ensures.keeps;
  same = c.trees_replace.ensures.same;
  through = c.trees_replace.ensures.through;
  both = c.trees_replace.ensures.both;
  alike = c.links_pack.ensures.alike;
  either = c.links_pack.ensures.either;
  deep = c.links_pack.ensures.deep;
  embeds = c.runs_lay.ensures.embeds;
  passes_tree = c.extras_are_passed.ensures.tree;
  passes_same = c.extras_are_passed.ensures.same;
}
