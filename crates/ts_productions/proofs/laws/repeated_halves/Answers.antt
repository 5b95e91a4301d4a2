use Rattle.ts_productions.proofs.FormLemmas.{halves}
use Rattle.ts_productions.proofs.laws.repeated_halves.Goals as goal

pub returns : goal.returns
returns c n x s content found of ordered here have = halves n x s of ordered content found here have
