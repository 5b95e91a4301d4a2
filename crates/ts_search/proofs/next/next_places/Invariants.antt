use Rattle.ts_search.proofs.NextLemmas.{NextSoFar}
use Rattle.ts_search.proofs.next.next_places.Given as goal

abbrev pub invariant-loop-place : goal.invariant-loop-place
invariant-loop-place l = NextSoFar l.row l.capturing l.place l.next l.out.items
