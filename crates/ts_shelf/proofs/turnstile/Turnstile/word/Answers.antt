use Rattle.std.proofs.Common.{◌<◌, arith}
use Rattle.ts_shelf.proofs.StepsKeepRule.{loads_keeps}
use Rattle.ts_shelf.proofs.turnstile.Turnstile.word.Goals as goal

pub load-requires : goal.load-requires
load-requires g c = let one = c.args.self.now.one in
    let words : 0 < c.args.self.now.table.shared.table_id.words = omega (arith, one.0) in (
      c.requires.seat.0,
      words,
      rw one.1
          (loads_keeps g.J.Journal.entries g.J.Journal.room g.J.Journal.opening g.J.Journal.fits
          c.args.seat.now.id c.args.seat.now.me c.requires.seat.1),
    )
