use Rattle.ts_search.proofs.NextLemmas.{NextOfFirst}
use Rattle.ts_search.proofs.next.next_of_all.Given as goal

abbrev pub invariant-loop-rows : goal.invariant-loop-rows
invariant-loop-rows l = NextOfFirst l.table l.capturing l.rows-index l.out.items
