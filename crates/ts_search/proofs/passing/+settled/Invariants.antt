use Rattle.std.proofs.Common.{length, ◌-◌}
use Rattle.ts_search.proofs.passing.+settled.Given as goal

abbrev pub decreases-settled : goal.decreases-settled
decreases-settled l = length l.all.now - l.key.number
