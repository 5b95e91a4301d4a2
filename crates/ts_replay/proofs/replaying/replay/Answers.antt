use Rattle.std.proofs.Common.{sym, subst, List, map, arith}
use Rattle.ts_docs.specs.declared.parsed.Pages.{Pages}
use Rattle.ts_script.specs.declared.plan.ScriptStep.{ScriptStep}
use Rattle.ts_replies.specs.declared.reply.Reply.{Reply}
use Rattle.spec_history.specs.Legal.{Legal}
use Rattle.spec_history.specs.Orders.{InOrder}
use Rattle.ts_replay.specs.declared.document.Document.{Document}
use Rattle.ts_replay.specs.Replays.{AreBooks, history_of}
use Rattle.ts_replay.specs.Running.{AreClientsBegun}
use Rattle.ts_replay.proofs.StartLemmas.{starts}
use Rattle.ts_replay.proofs.EndLemmas.{ends_legal, ends_ordered, ends_with_versions}
use Rattle.ts_replay.proofs.replaying.replay.Goals as goal

pub opened-requires-clause-few : goal.opened-requires-clause-few
opened-requires-clause-few g c = let same = c.requires.openings in let few = c.requires.plan.documents in omega (arith, same, few)

pub run-requires-clause-can : goal.run-requires-clause-can
run-requires-clause-can g c =
    let begun = subst (λ (l : List Document). AreClientsBegun c.args.plan.now.clients l c.in_ok-clients.clients.items) c.as_slice.ensures.value
    (subst (λ (l : List (List ScriptStep)). AreClientsBegun l c.as_slice.result.now c.in_ok-clients.clients.items) c.as_slice-2.ensures c.in_ok-clients.ensures) in (
      c.args.plan.now,
      c.args.openings.items,
      c.requires.queries,
      (starts (g.F.Finder.finds c.args.finder.now) c.args.plan.now c.args.table.now c.args.openings.items c.in_ok-documents.documents.items c.in_ok-clients.clients.items
          c.requires.plan c.requires.openings c.in_ok-documents.ensures.opened begun c.args.order.now).running,
    )

pub returns-clause-legal : goal.returns-clause-legal
returns-clause-legal g c =
    let begun = subst (λ (l : List Document). AreClientsBegun c.args.plan.now.clients l c.in_ok-clients.clients.items) c.as_slice.ensures.value
    (subst (λ (l : List (List ScriptStep)). AreClientsBegun l c.as_slice.result.now c.in_ok-clients.clients.items) c.as_slice-2.ensures c.in_ok-clients.ensures) in
    let at = c.run.ensures.runs c.args.plan.now c.args.openings.items
    (starts (g.F.Finder.finds c.args.finder.now) c.args.plan.now c.args.table.now c.args.openings.items c.in_ok-documents.documents.items c.in_ok-clients.clients.items
    c.requires.plan c.requires.openings c.in_ok-documents.ensures.opened begun c.args.order.now) in
    subst (λ (b : List Pages). Legal (g.F.Finder.finds c.args.finder.now) (history_of c.args.plan.now c.args.table.now.grammar c.args.openings.items b c.in_ok-replies.field-0)) (sym c.in_ok-books.ensures)
    (subst (λ (r : List (List Reply)). Legal (g.F.Finder.finds c.args.finder.now) (history_of c.args.plan.now c.args.table.now.grammar c.args.openings.items (map (λ (d : Document). d.book) c.run.new.documents.items) r)) (sym c.in_ok-replies.ensures)
    (ends_legal c.args.plan.now c.args.table.now c.args.openings.items c.args.order.now c.run.new.documents.items c.run.new.clients.items at c.run.ensures.done))

pub returns-clause-in_order : goal.returns-clause-in_order
returns-clause-in_order g c =
    let begun = subst (λ (l : List Document). AreClientsBegun c.args.plan.now.clients l c.in_ok-clients.clients.items) c.as_slice.ensures.value
    (subst (λ (l : List (List ScriptStep)). AreClientsBegun l c.as_slice.result.now c.in_ok-clients.clients.items) c.as_slice-2.ensures c.in_ok-clients.ensures) in
    let at = c.run.ensures.runs c.args.plan.now c.args.openings.items
    (starts (g.F.Finder.finds c.args.finder.now) c.args.plan.now c.args.table.now c.args.openings.items c.in_ok-documents.documents.items c.in_ok-clients.clients.items
    c.requires.plan c.requires.openings c.in_ok-documents.ensures.opened begun c.args.order.now) in
    subst (λ (b : List Pages). InOrder c.args.order.now (history_of c.args.plan.now c.args.table.now.grammar c.args.openings.items b c.in_ok-replies.field-0)) (sym c.in_ok-books.ensures)
    (subst (λ (r : List (List Reply)). InOrder c.args.order.now (history_of c.args.plan.now c.args.table.now.grammar c.args.openings.items (map (λ (d : Document). d.book) c.run.new.documents.items) r)) (sym c.in_ok-replies.ensures)
    (ends_ordered c.args.plan.now c.args.table.now c.args.openings.items c.args.order.now c.run.new.documents.items c.run.new.clients.items at c.run.ensures.done))

pub returns-clause-versions : goal.returns-clause-versions
returns-clause-versions g c =
    let begun = subst (λ (l : List Document). AreClientsBegun c.args.plan.now.clients l c.in_ok-clients.clients.items) c.as_slice.ensures.value
    (subst (λ (l : List (List ScriptStep)). AreClientsBegun l c.as_slice.result.now c.in_ok-clients.clients.items) c.as_slice-2.ensures c.in_ok-clients.ensures) in
    let at = c.run.ensures.runs c.args.plan.now c.args.openings.items
    (starts (g.F.Finder.finds c.args.finder.now) c.args.plan.now c.args.table.now c.args.openings.items c.in_ok-documents.documents.items c.in_ok-clients.clients.items
    c.requires.plan c.requires.openings c.in_ok-documents.ensures.opened begun c.args.order.now) in
    subst (λ (b : List Pages). AreBooks c.args.plan.now c.args.table.now c.args.openings.items b) (sym c.in_ok-books.ensures)
    (ends_with_versions c.args.plan.now c.args.table.now c.args.openings.items c.args.order.now c.run.new.documents.items c.run.new.clients.items at c.run.ensures.done)
