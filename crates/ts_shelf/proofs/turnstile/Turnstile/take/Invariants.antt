use Rattle.std.proofs.Common.{◌≡◌}
use Rattle.ts_shelf.specs.Tried.{Waited}
use Rattle.ts_shelf.proofs.turnstile.Turnstile.take.Given as goal

abbrev pub invariant-loop : goal.invariant-loop
invariant-loop g l = (l.seat.table_id ≡ l.initial.seat.table_id)
    × Waited l.initial.seat.me.0 l.seat.me
