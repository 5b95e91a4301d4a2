use Rattle.ts_places.proofs.PassLemmas.{all_past}
use Rattle.ts_places.proofs.shift_laws.empty_places_pass.Goals as goal

pub returns : goal.returns
returns c t text base most g count look ranks sound empty whole =
    all_past c.leaf_laws_hold.ensures c.next_laws_hold.ensures t text base most g ranks sound count look empty whole
