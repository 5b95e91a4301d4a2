use Rattle.std.proofs.Common.{refl}
use Rattle.ts_shelf.proofs.PassesComeAndGo.{opens_with}
use Rattle.ts_shelf.proofs.turnstile.Turnstile.new.Goals as goal

pub new-requires : goal.new-requires
new-requires g c =
    rw (c.in_ok-push.ensures.items, c.new-slots.ensures.items, c.of-start.ensures)
    (opens_with g.J.Journal.entries g.J.Journal.room g.J.Journal.opening g.J.Journal.fits
    (g.J.Journal.room c.args.journal) c.args.journal c.requires refl)
