use Rattle.ts_search.specs.Steps.{AreBare}
use Rattle.ts_search.proofs.products.are_bare.Given as goal

abbrev pub invariant-loop-place : goal.invariant-loop-place
invariant-loop-place l = AreBare l.table l.k l.fn.slot l.fn.run.first l.place
