use Rattle.ts_marks.proofs.KeptLemmas.{kept}
use Rattle.ts_marks.proofs.laws.settled_nodes_were_clear.Goals as goal

pub returns : goal.returns
returns c = λ e t u at. kept e t u at
