use Rattle.std.proofs.Common.{◌≡◌, subst, false}
use Rattle.spec_matches.specs.declared.placing.Slot.{Slot}
use Rattle.ts_search.proofs.first.leader.Goals as goal

pub returns : goal.returns
returns c = record { is_first = c.get-item.ensures; wanted = subst (λ (s : Slot). s.optional ≡ false) c.slot.ensures c.if-slot.false }
