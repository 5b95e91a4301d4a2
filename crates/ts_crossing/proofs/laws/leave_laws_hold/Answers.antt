use Rattle.ts_crossing.proofs.laws.leave_laws_hold.Goals as goal

pub returns : goal.returns
returns c = record {
  keeps = c.bare_trees.ensures.keeps;
  symbols = c.ways_are_read.ensures.symbols;
  named = c.states_are_named.ensures.after;
  tells = c.states_tell.ensures.after;
  spans = c.ways_are_read.ensures.spans;
  made = c.links_are_made.ensures;
  flat = c.extras_are_flat.ensures;
}
