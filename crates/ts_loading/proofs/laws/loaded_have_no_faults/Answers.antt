use Rattle.ts_loading.proofs.FaultLemmas.{no_faults}
use Rattle.ts_loading.proofs.laws.loaded_have_no_faults.Goals as goal

pub returns : goal.returns
returns c = no_faults
