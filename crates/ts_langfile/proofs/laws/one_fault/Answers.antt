use Rattle.ts_langfile.proofs.VerdictLemmas.{one_fault}
use Rattle.ts_langfile.proofs.laws.one_fault.Goals as goal

pub returns : goal.returns
returns c = λ e d w some other first second. one_fault e d w some other first second
