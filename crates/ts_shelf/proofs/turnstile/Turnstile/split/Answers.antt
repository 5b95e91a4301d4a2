use Rattle.std.proofs.Common.{◌<◌, ◌∙◌, arith}
use Rattle.ts_shelf.proofs.PassesComeAndGo.{split_keeps}
use Rattle.ts_shelf.proofs.StepsKeepRule.{asks_keeps}
use Rattle.ts_shelf.proofs.turnstile.Turnstile.split.Goals as goal

pub compare_exchange-requires : goal.compare_exchange-requires
compare_exchange-requires g c = let one = c.args.self.now.one in
    let words : 0 < c.args.self.now.table.shared.table_id.words = omega (arith, one.0) in (
      c.requires.seat.0,
      words,
      rw one.1
          (asks_keeps g.J.Journal.entries g.J.Journal.room g.J.Journal.opening g.J.Journal.fits
          c.args.seat.now.id _ c.args.seat.now.me c.requires.seat.1),
    )

pub split_seat-requires : goal.split_seat-requires
split_seat-requires g c = let one = c.args.self.now.one in
    let words : 0 < c.args.self.now.table.shared.table_id.words = omega (arith, one.0) in (
      c.compare_exchange.ensures.0 ∙ c.requires.seat.0,
      words,
      split_keeps g.J.Journal.entries g.J.Journal.room g.J.Journal.opening g.J.Journal.fits
          c.compare_exchange.new.seat.id _ c.args.seat.now.me c.compare_exchange.new.seat.me
          c.requires.seat.1
          c.requires.first c.requires.offers c.compare_exchange.ensures.2,
    )
