use Rattle.std.proofs.Common.{take}
use Rattle.ts_search.specs.Adding.{Adds, OfSome}
use Rattle.ts_search.specs.Steps.{Shown}
use Rattle.ts_search.proofs.once.add_placed.Given as goal

abbrev pub invariant-loop-one : goal.invariant-loop-one
invariant-loop-one l = Adds (OfSome (Shown l.fn.first l.fn.near) (take l.one-index l.lists)) l.initial.out.items l.out.items
