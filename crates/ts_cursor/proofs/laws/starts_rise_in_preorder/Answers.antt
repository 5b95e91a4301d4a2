use Rattle.ts_cursor.proofs.RiseLemmas.{starts_rise}
use Rattle.ts_cursor.proofs.laws.starts_rise_in_preorder.Goals as goal

pub returns : goal.returns
returns c = starts_rise
