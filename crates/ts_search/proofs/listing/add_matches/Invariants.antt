use Rattle.std.proofs.Common.{◌≡◌}
use Rattle.ts_search.specs.Adding.{OfSome}
use Rattle.ts_search.specs.Gathering.{Gathers, Hits}
use Rattle.ts_search.proofs.listing.add_matches.Given as goal

abbrev pub invariant-loop-one : goal.invariant-loop-one
invariant-loop-one g l = (l.keep ≡ l.fn.keep) × (Gathers (OfSome (Hits (g.K.Keep.kept l.fn.keep) l.fn.pattern l.siblings) l.yielded) l.fn.out l.out)
