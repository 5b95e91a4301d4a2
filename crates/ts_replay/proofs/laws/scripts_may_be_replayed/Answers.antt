use Rattle.ts_replay.proofs.ScriptLemmas.{script_may}
use Rattle.ts_replay.proofs.laws.scripts_may_be_replayed.Goals as goal

pub returns : goal.returns
returns c = script_may
