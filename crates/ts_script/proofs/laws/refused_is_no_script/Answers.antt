use Rattle.ts_script.proofs.ScriptLemmas.{refused}
use Rattle.ts_script.proofs.laws.refused_is_no_script.Goals as goal

pub returns : goal.returns
returns c = λ bytes f plan p q. refused bytes f plan p q
