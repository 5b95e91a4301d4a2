use Rattle.ts_marks.proofs.AgreeLemmas.{agree}
use Rattle.ts_marks.proofs.laws.clear_bytes_stay.Goals as goal

pub returns : goal.returns
returns c = λ text e place extent k. agree text e place extent k
