use Rattle.ts_query_tree.proofs.PlaceLemmas.{read_rises}
use Rattle.ts_query_tree.proofs.laws.places_rise.Goals as goal

pub returns : goal.returns
returns c x w h = read_rises x w h
