use Rattle.ts_places.proofs.sweep_laws.key_laws_hold.Goals as goal

pub returns : goal.returns
returns c = record {
  on = c.whole_to_the_next.ensures.on;
  ranks = c.keys_pass.ensures.ranks;
  starts = c.keys_pass.ensures.starts;
  rank = c.keys_follow.ensures.rank;
  start = c.keys_follow.ensures.start;
  nothing = c.moves_have_their_place.ensures.nothing;
}
