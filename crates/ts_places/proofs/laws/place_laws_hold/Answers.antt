use Rattle.ts_places.proofs.laws.place_laws_hold.Goals as goal

pub returns : goal.returns
returns c = record {
  through = c.trees_replace.ensures.through;
  look = c.keys_follow.ensures.look;
  stay = c.sights_stay.ensures;
  follow = c.places_follow.ensures;
  empty = c.empty_places_pass.ensures;
}
