use Rattle.ts_places.proofs.NextLemmas.{whole_next}
use Rattle.ts_places.proofs.shift_laws.places_follow.Goals as goal

pub returns : goal.returns
returns c t text base most old mid new k m table ranks sound early reduced shifted next look_is whole =
    whole_next c.leaf_laws_hold.ensures c.next_laws_hold.ensures t table most ranks text base old mid new k m early sound reduced shifted next look_is whole
