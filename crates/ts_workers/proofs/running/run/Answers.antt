use Rattle.ts_replay.specs.Replays.{history_of}
use Rattle.ts_workers.specs.Workers.{all_passes}
use Rattle.ts_workers.proofs.RunLemmas.{on_shelves, desks_are, still_on, left_alone, lawful, books_are}
use Rattle.ts_workers.proofs.running.run.Goals as goal

pub joined-replies-requires-clause-fronts : goal.joined-replies-requires-clause-fronts
joined-replies-requires-clause-fronts g c =
    on_shelves (g.F.Finder.finds c.args.finder.now) c.args.plan.now c.args.table.now c.args.openings.items c.requires.plan c.requires.openings
    c.in_ok-shelves.field-0.shelves.items c.in_ok-shelves.field-0.fronts.items c.in_ok-shelves.field-0.fronts.len c.in_ok-shelves.field-0.fronts.ok.0 c.in_ok-shelves.ensures.fronts
    c.as_slice.result.now c.as_slice.ensures.value c.deref_mut.result.now c.deref_mut.ensures.value
    c.hired.new.fronts c.in_ok-workers.workers.items c.in_ok-workers.workers.len c.in_ok-workers.workers.ok.0 c.in_ok-workers.ensures.fronts c.in_ok-workers.ensures.hired
    c.deref_mut-2.result.now c.deref_mut-2.ensures.value c.work_all.new.workers c.work_all.ensures.count c.work_all.ensures.worked
    c.as_slice-3.result.now c.as_slice-3.ensures.value c.deref_mut-3.result.now c.deref_mut-3.ensures.value

pub joined-replies-requires-clause-desks : goal.joined-replies-requires-clause-desks
joined-replies-requires-clause-desks g c =
    desks_are (g.F.Finder.finds c.args.finder.now) c.args.plan.now c.args.table.now c.args.openings.items c.requires.plan c.requires.openings
    c.in_ok-shelves.field-0.shelves.items c.in_ok-shelves.field-0.fronts.items c.in_ok-shelves.field-0.fronts.len c.in_ok-shelves.field-0.fronts.ok.0 c.in_ok-shelves.ensures.fronts
    c.as_slice.result.now c.as_slice.ensures.value c.deref_mut.result.now c.deref_mut.ensures.value
    c.hired.new.fronts c.in_ok-workers.workers.items c.in_ok-workers.workers.len c.in_ok-workers.workers.ok.0 c.in_ok-workers.ensures.fronts c.in_ok-workers.ensures.hired
    c.deref_mut-2.result.now c.deref_mut-2.ensures.value c.work_all.new.workers c.work_all.ensures.count c.work_all.ensures.worked
    c.as_slice-3.result.now c.as_slice-3.ensures.value c.deref_mut-3.result.now c.deref_mut-3.ensures.value

pub closed-books-requires-clause-fronts : goal.closed-books-requires-clause-fronts
closed-books-requires-clause-fronts g c =
    still_on (g.F.Finder.finds c.args.finder.now) c.args.plan.now c.args.table.now c.args.openings.items c.requires.plan c.requires.openings
    c.in_ok-shelves.field-0.shelves.items c.in_ok-shelves.field-0.fronts.items c.in_ok-shelves.field-0.fronts.len c.in_ok-shelves.field-0.fronts.ok.0 c.in_ok-shelves.ensures.fronts
    c.as_slice.result.now c.as_slice.ensures.value c.deref_mut.result.now c.deref_mut.ensures.value
    c.hired.new.fronts c.in_ok-workers.workers.items c.in_ok-workers.workers.len c.in_ok-workers.workers.ok.0 c.in_ok-workers.ensures.fronts c.in_ok-workers.ensures.hired
    c.deref_mut-2.result.now c.deref_mut-2.ensures.value c.work_all.new.workers c.work_all.ensures.count c.work_all.ensures.worked
    c.as_slice-3.result.now c.as_slice-3.ensures.value c.deref_mut-3.result.now c.deref_mut-3.ensures.value
    c.joined-replies.new.fronts c.joined-replies.ensures.joined

pub closed-books-requires-clause-alone : goal.closed-books-requires-clause-alone
closed-books-requires-clause-alone g c =
    left_alone (g.F.Finder.finds c.args.finder.now) c.args.plan.now c.args.table.now c.args.openings.items c.requires.plan c.requires.openings
    c.in_ok-shelves.field-0.shelves.items c.in_ok-shelves.field-0.fronts.items c.in_ok-shelves.field-0.fronts.len c.in_ok-shelves.field-0.fronts.ok.0 c.in_ok-shelves.ensures.fronts
    c.as_slice.result.now c.as_slice.ensures.value c.deref_mut.result.now c.deref_mut.ensures.value
    c.hired.new.fronts c.in_ok-workers.workers.items c.in_ok-workers.workers.len c.in_ok-workers.workers.ok.0 c.in_ok-workers.ensures.fronts c.in_ok-workers.ensures.hired
    c.deref_mut-2.result.now c.deref_mut-2.ensures.value c.work_all.new.workers c.work_all.ensures.count c.work_all.ensures.worked
    c.as_slice-3.result.now c.as_slice-3.ensures.value c.deref_mut-3.result.now c.deref_mut-3.ensures.value
    c.joined-replies.new.fronts c.joined-replies.ensures.joined

pub returns-clause-legal : goal.returns-clause-legal
returns-clause-legal g c =
    c.joined_work_is_lawful.ensures.legal (history_of c.args.plan.now c.args.table.now.grammar c.args.openings.items c.closed-books.result c.joined-replies.result) c.args.table.now c.closed-books.result
    (all_passes c.work_all.new.workers)
    (lawful (g.F.Finder.finds c.args.finder.now) c.args.plan.now c.args.table.now c.args.openings.items c.requires.plan c.requires.openings
    c.in_ok-shelves.field-0.shelves.items c.in_ok-shelves.field-0.fronts.items c.in_ok-shelves.field-0.fronts.len c.in_ok-shelves.field-0.fronts.ok.0 c.in_ok-shelves.ensures.fronts
    c.as_slice.result.now c.as_slice.ensures.value c.deref_mut.result.now c.deref_mut.ensures.value
    c.hired.new.fronts c.in_ok-workers.workers.items c.in_ok-workers.workers.len c.in_ok-workers.workers.ok.0 c.in_ok-workers.ensures.fronts c.in_ok-workers.ensures.hired
    c.deref_mut-2.result.now c.deref_mut-2.ensures.value c.work_all.new.workers c.work_all.ensures.count c.work_all.ensures.worked
    c.as_slice-3.result.now c.as_slice-3.ensures.value c.deref_mut-3.result.now c.deref_mut-3.ensures.value
    c.joined-replies.new.fronts c.joined-replies.ensures.joined
    c.closed-books.result c.closed-books.ensures c.joined-replies.result c.joined-replies.ensures.replies)

pub returns-clause-versions : goal.returns-clause-versions
returns-clause-versions g c =
    books_are (g.F.Finder.finds c.args.finder.now) c.args.plan.now c.args.table.now c.args.openings.items c.requires.plan c.requires.openings
    c.in_ok-shelves.field-0.shelves.items c.in_ok-shelves.field-0.fronts.items c.in_ok-shelves.field-0.fronts.len c.in_ok-shelves.field-0.fronts.ok.0 c.in_ok-shelves.ensures.fronts
    c.as_slice.result.now c.as_slice.ensures.value c.deref_mut.result.now c.deref_mut.ensures.value
    c.hired.new.fronts c.in_ok-workers.workers.items c.in_ok-workers.workers.len c.in_ok-workers.workers.ok.0 c.in_ok-workers.ensures.fronts c.in_ok-workers.ensures.hired
    c.deref_mut-2.result.now c.deref_mut-2.ensures.value c.work_all.new.workers c.work_all.ensures.count c.work_all.ensures.worked
    c.as_slice-3.result.now c.as_slice-3.ensures.value c.deref_mut-3.result.now c.deref_mut-3.ensures.value
    c.joined-replies.new.fronts c.joined-replies.ensures.joined
    c.closed-books.result c.closed-books.ensures c.joined-replies.result c.joined-replies.ensures.replies
    (c.joined_work_is_lawful.ensures.versions (history_of c.args.plan.now c.args.table.now.grammar c.args.openings.items c.closed-books.result c.joined-replies.result) c.args.table.now c.closed-books.result
    (all_passes c.work_all.new.workers)
    (lawful (g.F.Finder.finds c.args.finder.now) c.args.plan.now c.args.table.now c.args.openings.items c.requires.plan c.requires.openings
    c.in_ok-shelves.field-0.shelves.items c.in_ok-shelves.field-0.fronts.items c.in_ok-shelves.field-0.fronts.len c.in_ok-shelves.field-0.fronts.ok.0 c.in_ok-shelves.ensures.fronts
    c.as_slice.result.now c.as_slice.ensures.value c.deref_mut.result.now c.deref_mut.ensures.value
    c.hired.new.fronts c.in_ok-workers.workers.items c.in_ok-workers.workers.len c.in_ok-workers.workers.ok.0 c.in_ok-workers.ensures.fronts c.in_ok-workers.ensures.hired
    c.deref_mut-2.result.now c.deref_mut-2.ensures.value c.work_all.new.workers c.work_all.ensures.count c.work_all.ensures.worked
    c.as_slice-3.result.now c.as_slice-3.ensures.value c.deref_mut-3.result.now c.deref_mut-3.ensures.value
    c.joined-replies.new.fronts c.joined-replies.ensures.joined
    c.closed-books.result c.closed-books.ensures c.joined-replies.result c.joined-replies.ensures.replies))
