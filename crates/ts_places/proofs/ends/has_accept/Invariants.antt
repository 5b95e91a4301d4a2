use Rattle.std.proofs.Common.{take}
use Rattle.ts_places.proofs.EndLemmas.{HasNoAccept}
use Rattle.ts_places.proofs.ends.has_accept.Given as goal

abbrev pub invariant-loop-action : goal.invariant-loop-action
invariant-loop-action l = HasNoAccept (take l.action-index l.actions)
