use Rattle.ts_turns.proofs.TurnsLemmas.{spelled_once}
use Rattle.ts_turns.proofs.laws.spelled_once.Goals as goal

pub returns : goal.returns
returns c = spelled_once
