use Rattle.ts_langfile.proofs.VerdictLemmas.{not_read}
use Rattle.ts_langfile.proofs.laws.refused_is_not_read.Goals as goal

pub returns : goal.returns
returns c = λ e f w some fault reads fit. not_read e f w some fault reads fit
