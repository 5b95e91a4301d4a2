use Rattle.std.proofs.Common.{take}
use Rattle.ts_search.proofs.IndexLemmas.{AreIn}
use Rattle.ts_search.proofs.index.groups_of.Given as goal

abbrev pub invariant-loop-one : goal.invariant-loop-one
invariant-loop-one l = AreIn l.groups.items (take l.one-index l.one-items)
