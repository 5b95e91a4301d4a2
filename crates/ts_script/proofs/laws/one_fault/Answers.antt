use Rattle.ts_script.proofs.ScriptLemmas.{one_fault}
use Rattle.ts_script.proofs.laws.one_fault.Goals as goal

pub returns : goal.returns
returns c = λ bytes f g p q. one_fault bytes f g p q
