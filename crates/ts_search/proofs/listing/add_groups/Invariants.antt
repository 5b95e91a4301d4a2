use Rattle.std.proofs.Common.{◌≡◌, take}
use Rattle.ts_search.specs.Adding.{OfSome}
use Rattle.ts_search.specs.Gathering.{Gathers}
use Rattle.ts_search.specs.Visits.{HitsOfGroup}
use Rattle.ts_search.proofs.listing.add_groups.Given as goal

abbrev pub invariant-loop-group : goal.invariant-loop-group
invariant-loop-group g l = (l.keep ≡ l.fn.keep) × (Gathers (OfSome (HitsOfGroup l.sight (g.K.Keep.kept l.fn.keep) l.patterns l.fn.n) (take l.group-index l.groups)) l.fn.out l.out)
