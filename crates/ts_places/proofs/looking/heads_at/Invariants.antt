use Rattle.ts_places.specs.Looking.{AreHeadsUpTo}
use Rattle.ts_places.proofs.looking.heads_at.Given as goal

abbrev pub invariant-loop-number : goal.invariant-loop-number
invariant-loop-number l = AreHeadsUpTo l.graph l.from l.number l.place l.heads.items
