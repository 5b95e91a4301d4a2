use Rattle.ts_shelf.proofs.PassesComeAndGo.{closes_with}
use Rattle.ts_shelf.proofs.turnstile.Turnstile.close.Goals as goal

pub returns : goal.returns
returns g c =
    closes_with g.J.Journal.entries g.J.Journal.room g.J.Journal.opening g.J.Journal.fits
    c.args.seat.id c.args.seat.me.0 _ _ c.take-journal.result c.requires.seat.1.1
    c.requires.alone.0 c.requires.alone.1
    c.close_with-closed.ensures.values.2 c.take-journal.ensures.value
