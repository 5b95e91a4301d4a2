use Rattle.ts_search.proofs.SilentLemmas.{AreMarked}
use Rattle.ts_search.proofs.silent.silents.Given as goal

abbrev pub invariant-loop-rows : goal.invariant-loop-rows
invariant-loop-rows l = AreMarked l.table l.rows-index l.out.items
