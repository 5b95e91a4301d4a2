use Rattle.std.proofs.Common.{◌<◌, ◌∙◌, arith}
use Rattle.ts_shelf.proofs.PassesComeAndGo.{join_keeps, join_idle}
use Rattle.ts_shelf.proofs.StepsKeepRule.{learns_keeps}
use Rattle.ts_shelf.proofs.turnstile.Turnstile.join.Goals as goal

pub join_seat-requires : goal.join_seat-requires
join_seat-requires g c = let one = c.args.self.now.one in
    let words : 0 < c.args.self.now.table.shared.table_id.words = omega (arith, one.0) in
    let p = c.requires.seat in
    let q = c.requires.other in
    let f = c.requires.first in (
      p.0,
      q.0,
      q.1.0,
      words,
      join_keeps g.J.Journal.entries g.J.Journal.room g.J.Journal.opening
          g.J.Journal.fits c.args.seat.now.id c.args.other.id c.args.seat.now.me.0 c.args.other.me.0
          p.1.1 f.0 q.1.1 f.1 q.1.2,
    )

pub load-requires : goal.load-requires
load-requires g c = let one = c.args.self.now.one in
    let words : 0 < c.args.self.now.table.shared.table_id.words = omega (arith, one.0) in (
      c.join_seat.ensures.0 ∙ c.requires.seat.0,
      words,
      rw one.1
          (learns_keeps g.J.Journal.entries g.J.Journal.room g.J.Journal.opening g.J.Journal.fits
          c.join_seat.new.seat.id c.join_seat.new.seat.me
          (join_idle g.J.Journal.entries g.J.Journal.room g.J.Journal.opening g.J.Journal.fits
          c.args.seat.now.me c.join_seat.new.seat.me c.args.other.me c.requires.seat.1
          c.requires.first.0 c.join_seat.ensures.2)),
    )
