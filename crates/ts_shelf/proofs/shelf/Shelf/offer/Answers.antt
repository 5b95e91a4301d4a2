use Rattle.std.proofs.Common.{◌∙◌, ◌∷◌, [], ap}
use Rattle.ts_shelf.proofs.TurnTells.{as_offered, published_tells, newer_tells, latest_tells, idle_after}
use Rattle.ts_shelf.proofs.shelf.Shelf.offer.Goals as goal

pub give_offer-requires-clause-journal : goal.give_offer-requires-clause-journal
give_offer-requires-clause-journal g c =
    let t = c.in-Some.ensures.some in
    let m = c.number-number.ensures.same.1 in
    let inside = ap (λ k. k.knows) c.pass.view_is in
    let a = c.add.ensures.added t.2.journal (ap (λ x. x.1) m ∙ t.2.carried) in
    let same = c.number-number-then-number-base.ensures.same.1 ∙ a.1
    ∙ ap (λ x. (x.0, (0, a.0) ∷ [])) m in
    as_offered g.J.Journal.entries g.J.Journal.room g.J.Journal.opening g.J.Journal.fits
    c.pass.inside.seat.me.0
    t.0 c.in-Some.turn c.args.item c.take.new.seat.me c.number-number-then-number-base.new.seat.me
    a.0 t.2 same a.2 a.3 a.4
    (rw inside c.requires.fits) (rw inside c.requires.offers)

pub returns-then-number-base-clause-answered : goal.returns-then-number-base-clause-answered
returns-then-number-base-clause-answered g c =
    let t = c.in-Some.ensures.some in
    let m = c.number-number.ensures.same.1 in
    let inside = ap (λ k. k.knows) c.pass.view_is in
    let a = c.add.ensures.added t.2.journal (ap (λ x. x.1) m ∙ t.2.carried) in
    let same = c.number-number-then-number-base.ensures.same.1 ∙ a.1
    ∙ ap (λ x. (x.0, (0, a.0) ∷ [])) m in
    rw (← c.pass.view_is)
    (published_tells g.J.Journal.entries g.J.Journal.room g.J.Journal.opening g.J.Journal.fits
    c.pass.inside.seat.me.0
    t.0 c.in-Some.turn c.args.base c.number-number.result c.number-number-then-number-base.result
    c.args.item
    c.take.new.seat.me c.number-number-then-number-base.new.seat.me c.give_offer.new.seat.me a.0
    t.1 t.2 same a.2
    c.give_offer.ensures.view c.number-number.ensures.number c.if-number-base.true
    (c.number-number-then-number-base.ensures.number a.0 (ap (λ x. x.1) a.1))
    (rw inside c.requires.base)
    (rw inside c.requires.fits) (rw inside c.requires.offers)).0

pub returns-then-number-base-clause-pass : goal.returns-then-number-base-clause-pass
returns-then-number-base-clause-pass g c =
    let t = c.in-Some.ensures.some in
    let m = c.number-number.ensures.same.1 in
    let inside = ap (λ k. k.knows) c.pass.view_is in
    let a = c.add.ensures.added t.2.journal (ap (λ x. x.1) m ∙ t.2.carried) in
    let same = c.number-number-then-number-base.ensures.same.1 ∙ a.1
    ∙ ap (λ x. (x.0, (0, a.0) ∷ [])) m in
    (published_tells g.J.Journal.entries g.J.Journal.room g.J.Journal.opening g.J.Journal.fits
    c.pass.inside.seat.me.0
    t.0 c.in-Some.turn c.args.base c.number-number.result c.number-number-then-number-base.result
    c.args.item
    c.take.new.seat.me c.number-number-then-number-base.new.seat.me c.give_offer.new.seat.me a.0
    t.1 t.2 same a.2
    c.give_offer.ensures.view c.number-number.ensures.number c.if-number-base.true
    (c.number-number-then-number-base.ensures.number a.0 (ap (λ x. x.1) a.1))
    (rw inside c.requires.base)
    (rw inside c.requires.fits) (rw inside c.requires.offers)).1

pub invariant_of-pass-then-number-base : goal.invariant_of-pass-then-number-base
invariant_of-pass-then-number-base g c =
    let t = c.in-Some.ensures.some in
    let m = c.number-number.ensures.same.1 in
    let inside = ap (λ k. k.knows) c.pass.view_is in
    let a = c.add.ensures.added t.2.journal (ap (λ x. x.1) m ∙ t.2.carried) in
    let same = c.number-number-then-number-base.ensures.same.1 ∙ a.1
    ∙ ap (λ x. (x.0, (0, a.0) ∷ [])) m in (
      idle_after g.J.Journal.entries g.J.Journal.room g.J.Journal.opening g.J.Journal.fits _
          c.in-Some.turn 1 c.take.new.seat.me c.give_offer.new.seat.me
          c.number-number-then-number-base.new.seat.me.0
          (g.J.Journal.entries a.0) c.pass.invariant.0.2 t.2 (ap (λ x. x.0) same)
          (c.give_offer.ensures.view a.0 (ap (λ x. x.1) same)),
      returns-then-number-base-clause-pass g c,
    )

pub returns-in-Ok-clause-answered : goal.returns-in-Ok-clause-answered
returns-in-Ok-clause-answered g c =
    let t = c.in-Some.ensures.some in
    let m = c.number-number.ensures.same.1 in
    let inside = ap (λ k. k.knows) c.pass.view_is in
    let same = c.shown.ensures.same.1 ∙ m in
    let back = c.give_offer-in-Ok.ensures.view t.2.journal (ap (λ x. x.1) same ∙ t.2.carried) in (
      rw (← c.pass.view_is)
          (newer_tells g.J.Journal.entries g.J.Journal.room g.J.Journal.opening g.J.Journal.fits
          c.pass.inside.seat.me.0
          t.0 c.in-Some.turn c.args.base c.number-number.result c.args.item c.take.new.seat.me
          c.shown.new.seat.me
          c.give_offer-in-Ok.new.seat.me t.1 t.2 same c.give_offer-in-Ok.ensures.view
          c.number-number.ensures.number
          (rw inside c.requires.base) c.if-number-base.false (rw inside c.requires.offers)).0,
      latest_tells g.J.Journal.entries g.J.Journal.room g.J.Journal.opening g.J.Journal.fits
          g.J.Journal.shown_of _
          c.in-Some.turn 1 c.take.new.seat.me c.shown.new.seat.me c.give_offer-in-Ok.new.seat.me.0
          c.in-Ok.latest t.2 same
          (ap (λ x. x.0) back) (c.in-Ok.ensures.shown t.2.journal (ap (λ x. x.1) m ∙ t.2.carried)),
    )

pub returns-in-Ok-clause-pass : goal.returns-in-Ok-clause-pass
returns-in-Ok-clause-pass g c =
    let t = c.in-Some.ensures.some in
    let m = c.number-number.ensures.same.1 in
    let inside = ap (λ k. k.knows) c.pass.view_is in
    let same = c.shown.ensures.same.1 ∙ m in
    (newer_tells g.J.Journal.entries g.J.Journal.room g.J.Journal.opening g.J.Journal.fits
    c.pass.inside.seat.me.0
    t.0 c.in-Some.turn c.args.base c.number-number.result c.args.item c.take.new.seat.me
    c.shown.new.seat.me
    c.give_offer-in-Ok.new.seat.me t.1 t.2 same c.give_offer-in-Ok.ensures.view
    c.number-number.ensures.number
    (rw inside c.requires.base) c.if-number-base.false (rw inside c.requires.offers)).1

pub invariant_of-pass-in-Ok : goal.invariant_of-pass-in-Ok
invariant_of-pass-in-Ok g c =
    let t = c.in-Some.ensures.some in
    let m = c.number-number.ensures.same.1 in
    let inside = ap (λ k. k.knows) c.pass.view_is in
    let same = c.shown.ensures.same.1 ∙ m in (
      idle_after g.J.Journal.entries g.J.Journal.room g.J.Journal.opening g.J.Journal.fits _
          c.in-Some.turn 1 c.take.new.seat.me c.give_offer-in-Ok.new.seat.me c.shown.new.seat.me.0
          (g.J.Journal.entries t.2.journal) c.pass.invariant.0.2 t.2 (ap (λ x. x.0) same)
          (c.give_offer-in-Ok.ensures.view t.2.journal (ap (λ x. x.1) same ∙ t.2.carried)),
      returns-in-Ok-clause-pass g c,
    )
