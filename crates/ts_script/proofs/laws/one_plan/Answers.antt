use Rattle.ts_script.proofs.ScriptLemmas.{one_script}
use Rattle.ts_script.proofs.laws.one_plan.Goals as goal

pub returns : goal.returns
returns c = λ bytes f g p q. one_script bytes f g p q
