use Rattle.std.proofs.Common.{◌∙◌, subst, ◌<◌, length, arith}
use denote.Param.Send.{sendable}
use Rattle.std.proofs.Crossing.{crosses}
use Rattle.std.proofs.lemmas.Option.{slice_get_within, get_or_from_slice_get}
use Rattle.ts_client.specs.Working.{HasWorked}
use Rattle.ts_script.proofs.plan.Plan.TheSendSync as plan
use Rattle.ts_shelf.proofs.shelf.Shelf.TheSendSync as shelf
use Rattle.ts_workers.specs.declared.worker.Worker.{Worker}
use Rattle.ts_workers.proofs.ListLemmas.{read_at}
use Rattle.ts_workers.proofs.SendLemmas.{worker_send, table_sync, book_send, book_sync}
use Rattle.ts_workers.proofs.working.work_all.Goals as goal

pub for_each_mut-requires-send-T : goal.for_each_mut-requires-send-T
for_each_mut-requires-send-T g c = λ κs lives. search (sendable, worker_send)

pub for_each_mut-requires-sync-F : goal.for_each_mut-requires-sync-F
for_each_mut-requires-sync-F g c = λ κs lives.
    let r = c.type_bounds.sync-R in
    let gate = c.type_bounds.sync-G in
    let f = c.type_bounds.sync-F in
    search (table_sync, plan.the_sync, shelf.the_sync, book_send, book_sync, sendable, crosses) depth 30 fits 5000

pub for_each_mut-requires-clause-accepts : goal.for_each_mut-requires-clause-accepts
for_each_mut-requires-clause-accepts g c = λ κs lives i p lt is.
    let r = c.type_bounds.sync-R in
    let gate = c.type_bounds.sync-G in
    let f = c.type_bounds.sync-F in (
      (
        c.requires.plan,
        c.requires.form,
        c.requires.queries,
        c.requires.shelves,
        record {
          there = (let same = c.requires.hired.1.count in omega (arith, lt, same));
          may = λ steps s_is. (c.requires.hired.1.each i steps p.now s_is (read_at c.args.workers.now i p.now lt is)).may;
        },
      ),
      search (sendable, crosses) depth 30 fits 5000,
    )

pub returns-clause-worked : goal.returns-clause-worked
returns-clause-worked g c client steps o n s_is o_is n_is =
    let lt : client < length c.args.workers.now = slice_get_within c.args.workers.now client o o_is in
    let at = (c.for_each_mut.ensures client n lt).1 in
    subst (λ (x : Worker). HasWorked (g.F.Finder.finds c.args.finder.now) c.args.plan.now c.args.table.now.grammar client steps x.client.desks.items n.client)
    (at.argument_is ∙ get_or_from_slice_get c.args.workers.now client o n o_is)
    (subst (λ (y : Worker). HasWorked (g.F.Finder.finds c.args.finder.now) c.args.plan.now c.args.table.now.grammar client steps at.argument.now.client.desks.items y.client)
    (at.left ∙ get_or_from_slice_get c.for_each_mut.new.s client n n n_is)
    (at.call steps s_is))
