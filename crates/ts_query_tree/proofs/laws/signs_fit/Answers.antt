use Rattle.ts_query_tree.proofs.LengthLemmas.{text_fits}
use Rattle.ts_query_tree.proofs.laws.signs_fit.Goals as goal

pub returns : goal.returns
returns c q w h = text_fits q w h
