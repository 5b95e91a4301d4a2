use Rattle.std.proofs.Common.{refl}
use Rattle.ts_shelf.proofs.TriesInARow.{waits_at_first, ends_after, takes_after}
use Rattle.ts_shelf.proofs.turnstile.Turnstile.take.Goals as goal

pub loop-init : goal.loop-init
loop-init g c = (refl, waits_at_first c.args.seat.now.me c.requires.seat.1.0)

pub returns-in-Spent-clause-none : goal.returns-in-Spent-clause-none
returns-in-Spent-clause-none g c =
    ends_after c.args.seat.now.me.0 c.loop.seat.me c.attempt.new.seat.me c.loop.invariant.1
    c.in-Spent.ensures.tried

pub returns-in-Took-clause-some : goal.returns-in-Took-clause-some
returns-in-Took-clause-some g c =
    takes_after g.J.Journal.entries g.J.Journal.room g.J.Journal.opening g.J.Journal.fits
    c.args.seat.now.me.0 c.in-Took.turn c.loop.seat.me c.attempt.new.seat.me c.loop.invariant.1
    c.in-Took.ensures.tried
