use Rattle.ts_cursor.proofs.ShapeLemmas.{has_some, root_first, has_parent}
use Rattle.ts_cursor.proofs.laws.nodes_have_parents.Goals as goal

pub returns : goal.returns
returns c = record { some = has_some; root = root_first; parent = has_parent }
