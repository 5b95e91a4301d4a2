use Rattle.std.proofs.Common.{◌≡◌}
use Rattle.ts_search.specs.Adding.{OfSome}
use Rattle.ts_search.specs.Gathering.{Gathers}
use Rattle.ts_search.specs.Single.{HitAt}
use Rattle.ts_search.proofs.single.add_ways.Given as goal

abbrev pub invariant-loop-way : goal.invariant-loop-way
invariant-loop-way g l = (l.keep ≡ l.fn.keep) × (Gathers (OfSome (HitAt (g.K.Keep.kept l.fn.keep) l.fn.pattern l.fn.n) l.yielded) l.fn.out l.out)
