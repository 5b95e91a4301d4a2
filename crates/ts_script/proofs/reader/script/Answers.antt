use Rattle.ts_script.proofs.ScriptLemmas.{complete_of}
use Rattle.ts_script.proofs.reader.script.Goals as goal

pub returns-clause-complete : goal.returns-clause-complete
returns-clause-complete c = complete_of _ _ c.read.ensures.refused
