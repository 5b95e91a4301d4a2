use Rattle.std.proofs.Common.{arith}
use Rattle.ts_top.proofs.outcome.outcome_of.Goals as goal

pub parse-requires-clause-short : goal.parse-requires-clause-short
parse-requires-clause-short c = let short = c.requires in omega (arith, short)
