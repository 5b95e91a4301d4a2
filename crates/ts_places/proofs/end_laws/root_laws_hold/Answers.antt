use Rattle.ts_places.proofs.end_laws.root_laws_hold.Goals as goal

pub returns : goal.returns
returns c = record {
  keeps = c.bare_trees.ensures.keeps;
  accepts = c.moves_have_their_place.ensures.accept;
  symbols = c.ways_are_read.ensures.symbols;
  named = c.states_are_named.ensures.after;
  tells = c.states_tell.ensures.after;
  root = c.stacks_stay_sound.ensures.accepted;
}
