use Rattle.std.proofs.Common.{◌<◌, arith}
use Rattle.ts_shelf.proofs.StepsKeepRule.{offer_back_keeps}
use Rattle.ts_shelf.proofs.turnstile.Turnstile.give_offer.Goals as goal

pub store-requires : goal.store-requires
store-requires g c = let one = c.args.self.now.one in
    let words : 0 < c.args.self.now.table.shared.table_id.words = omega (arith, one.0) in (
      c.requires.table,
      words,
      rw one.1
          (offer_back_keeps g.J.Journal.entries g.J.Journal.room g.J.Journal.opening
          g.J.Journal.fits c.args.seat.now.id c.args.turn c.args.seat.now.me
          c.requires.journal),
    )
