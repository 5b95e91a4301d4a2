use Rattle.std.proofs.Common.{◌≡◌, take}
use Rattle.ts_search.specs.Adding.{OfSome}
use Rattle.ts_search.specs.Gathering.{GathersSome}
use Rattle.ts_search.specs.Single.{HitsAt}
use Rattle.ts_search.proofs.single.add_single.Given as goal

abbrev pub invariant-loop-n : goal.invariant-loop-n
invariant-loop-n g l = (l.keep ≡ l.fn.keep) × (GathersSome (OfSome (HitsAt l.sight (g.K.Keep.kept l.fn.keep) l.fn.pattern l.item) (take l.n-index l.siblings)) l.fn.limit.cut l.limit.cut l.fn.out l.out)
