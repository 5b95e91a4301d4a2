use Rattle.std.proofs.Common.{take}
use Rattle.ts_search.specs.Adding.{Adds, OfSome}
use Rattle.ts_search.specs.Steps.{JoinedTo}
use Rattle.ts_search.proofs.products.add_behind.Given as goal

abbrev pub invariant-loop-front : goal.invariant-loop-front
invariant-loop-front l = Adds (OfSome (JoinedTo l.back) (take l.front-index l.fronts)) l.initial.out.items l.out.items
