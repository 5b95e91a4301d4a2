use Rattle.ts_search.specs.Index.{AreRooted}
use Rattle.ts_search.proofs.index.rooted.Given as goal

abbrev pub invariant-loop-number : goal.invariant-loop-number
invariant-loop-number l = AreRooted l.patterns l.number l.all.items
