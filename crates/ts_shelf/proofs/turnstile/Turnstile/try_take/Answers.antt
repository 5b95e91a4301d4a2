use Rattle.std.proofs.Common.{◌<◌, arith}
use Rattle.ts_shelf.proofs.StepsKeepRule.{tries_keeps}
use Rattle.ts_shelf.proofs.turnstile.Turnstile.try_take.Goals as goal

pub compare_exchange-found-requires : goal.compare_exchange-found-requires
compare_exchange-found-requires g c = let one = c.args.self.now.one in
    let words : 0 < c.args.self.now.table.shared.table_id.words = omega (arith, one.0) in (
      c.requires.seat.0,
      words,
      rw one.1
          (tries_keeps g.J.Journal.entries g.J.Journal.room g.J.Journal.opening g.J.Journal.fits
          c.args.seat.now.id c.args.turn c.args.seat.now.me c.requires.seat.1 c.requires.few),
    )
