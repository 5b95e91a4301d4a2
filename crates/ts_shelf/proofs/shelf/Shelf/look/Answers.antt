use Rattle.std.proofs.Common.{◌∙◌, ap}
use Rattle.ts_shelf.proofs.TurnTells.{look_tells, idle_after}
use Rattle.ts_shelf.proofs.shelf.Shelf.look.Goals as goal

pub returns-clause-looked : goal.returns-clause-looked
returns-clause-looked g c =
    let t = c.in-Some.ensures.some in
    let same = c.shown.ensures.same.1 ∙ c.number-number.ensures.same.1 in
    rw (← c.pass.view_is)
    (look_tells g.J.Journal.entries g.J.Journal.room g.J.Journal.opening g.J.Journal.fits
    c.pass.inside.seat.me.0
    t.0 c.in-Some.turn c.number-number.result c.take.new.seat.me c.shown.new.seat.me
    c.give_back.new.seat.me.0 t.1 t.2 same
    (ap (λ x. x.0) c.give_back.ensures.view) c.number-number.ensures.number).0

pub returns-clause-pass : goal.returns-clause-pass
returns-clause-pass g c =
    let t = c.in-Some.ensures.some in
    let same = c.shown.ensures.same.1 ∙ c.number-number.ensures.same.1 in
    (look_tells g.J.Journal.entries g.J.Journal.room g.J.Journal.opening g.J.Journal.fits
    c.pass.inside.seat.me.0
    t.0 c.in-Some.turn c.number-number.result c.take.new.seat.me c.shown.new.seat.me
    c.give_back.new.seat.me.0 t.1 t.2 same
    (ap (λ x. x.0) c.give_back.ensures.view) c.number-number.ensures.number).1

pub invariant_of-pass-2 : goal.invariant_of-pass-2
invariant_of-pass-2 g c =
    let t = c.in-Some.ensures.some in
    let same = c.shown.ensures.same.1 ∙ c.number-number.ensures.same.1 in (
      idle_after g.J.Journal.entries g.J.Journal.room g.J.Journal.opening g.J.Journal.fits _
          c.in-Some.turn 0 c.take.new.seat.me c.give_back.new.seat.me c.shown.new.seat.me.0
          c.shown.new.seat.me.0.notes.held_entries c.pass.invariant.0.2 t.2
          (ap (λ x. x.0) same) c.give_back.ensures.view,
      returns-clause-pass g c,
    )
