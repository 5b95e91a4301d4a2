use Rattle.std.proofs.Common.{◌∙◌, sym, ap, subst}
use Rattle.ts_docs.specs.declared.parsed.Pages.{Pages}
use Rattle.ts_docs.specs.Versions.{IsTextOf}
use Rattle.ts_workers.proofs.FrontLemmas.{first_is_front, first_is_lent}
use Rattle.ts_workers.proofs.opening.document.Goals as goal

pub returns-clause-front : goal.returns-clause-front
returns-clause-front c table text is =
    first_is_front table text c.in_ok-shelf.shelf (record { pass = c.in_ok-shelf.pass; version = c.in_ok-first.first }) c.in_ok-book.book.opening c.in_ok-book.book.room
    c.in_ok-shelf.ensures.shelf c.in_ok-shelf.ensures.pass c.in_ok-shelf.ensures.first (c.in_ok-first.ensures ∙ c.opening.ensures)
    (subst (IsTextOf table 0 text) (sym (ap (λ (b : Pages). b.opening) c.in_ok-book.ensures)) is)

pub returns-clause-lent : goal.returns-clause-lent
returns-clause-lent c =
    first_is_lent c.args.plan.now c.args.number c.in_ok-book.book.opening c.in_ok-book.book.room c.in_ok-shelf.pass.knows c.in_ok-shelf.ensures.first
    (ap (λ (b : Pages). b.room) c.in_ok-book.ensures ∙ c.edits_of-room.ensures)
