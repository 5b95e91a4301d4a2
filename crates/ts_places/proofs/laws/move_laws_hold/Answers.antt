use Rattle.ts_places.proofs.laws.move_laws_hold.Goals as goal

pub returns : goal.returns
returns c = record { reduces = c.moves_have_their_place.ensures.reduce }
