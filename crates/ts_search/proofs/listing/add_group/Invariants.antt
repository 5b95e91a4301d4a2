use Rattle.std.proofs.Common.{◌≡◌, take}
use Rattle.ts_search.specs.Adding.{OfSome}
use Rattle.ts_search.specs.Gathering.{Gathers}
use Rattle.ts_search.specs.Visits.{HitsOfNumber}
use Rattle.ts_search.proofs.listing.add_group.Given as goal

abbrev pub invariant-loop-number : goal.invariant-loop-number
invariant-loop-number g l = (l.keep ≡ l.fn.keep) × (Gathers (OfSome (HitsOfNumber l.sight (g.K.Keep.kept l.fn.keep) l.patterns l.group.root l.fn.n) (take l.number-index l.number-items)) l.fn.out l.out)
