use Rattle.std.proofs.Common.{◌≡◌}
use Rattle.ts_search.specs.Gathering.{Gathers}
use Rattle.ts_search.specs.Visits.{HitsAtFirst}
use Rattle.ts_search.proofs.listing.gathered.Given as goal

abbrev pub invariant-loop-n : goal.invariant-loop-n
invariant-loop-n g l = (l.keep ≡ l.fn.keep) × (Gathers (HitsAtFirst l.sight (g.K.Keep.kept l.fn.keep) l.patterns l.groups.items l.n) l.initial.out l.out)
