use Rattle.std.proofs.Common.{◌-◌}
use Rattle.ts_search.proofs.products.+between.Given as goal

abbrev pub decreases-between : goal.decreases-between
decreases-between l = l.to - l.from
