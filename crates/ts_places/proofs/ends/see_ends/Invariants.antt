use Rattle.std.proofs.Common.{take}
use Rattle.ts_places.proofs.EndLemmas.{SeesUpTo}
use Rattle.ts_places.proofs.ends.see_ends.Given as goal

abbrev pub invariant-loop-top : goal.invariant-loop-top
invariant-loop-top l = SeesUpTo l.table l.graph (take l.top-index l.top-items) l.initial.ends l.ends
