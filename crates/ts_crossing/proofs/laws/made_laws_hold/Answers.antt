use Rattle.ts_crossing.proofs.laws.made_laws_hold.Goals as goal

pub returns : goal.returns
returns c = record {
  spelled = c.trees_are_spelled.ensures;
  bare_made = c.bare_trees_are_made.ensures;
}
