use Rattle.std.proofs.Common.{◌-◌, ◌^◌}
use Rattle.ts_fit.specs.Searches.{LeadsAlone}
use Rattle.ts_fit.proofs.GrowLemmas.{Closing}
use Rattle.ts_fit.proofs.cyclic.leads_back.Given as goal

abbrev pub invariant-loop-next : goal.invariant-loop-next
invariant-loop-next l = Closing (LeadsAlone l.grammar) l.initial.found.keys l.found.keys l.next

abbrev pub decreases-loop-next : goal.decreases-loop-next
decreases-loop-next l = 2 ^ 64 - l.next
