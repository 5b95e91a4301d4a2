use Rattle.std.proofs.Common.{refl, length}
use Rattle.std.proofs.lemmas.Option.{slice_get_read, slice_get_within}
use Rattle.ts_replay.proofs.LoopLemmas.{may_take_next, can_still, others_same, fewer_left, one_taken}
use Rattle.ts_replay.proofs.running.take_step.Goals as goal

pub step_of-requires-clause-may : goal.step_of-requires-clause-may
step_of-requires-clause-may g c =
    may_take_next (g.F.Finder.count c.args.finder.now) c.args.table.now c.args.documents.now.items c.args.clients.now.items c.args.client c.index_mut.result.now
    (slice_get_read c.args.clients.now.items (length c.args.clients.now.items) c.args.client c.index_mut.result.now refl
    (slice_get_within c.args.clients.now.items c.args.client c.requires.next.who c.requires.next.is) c.index_mut.ensures.value)
    c.requires.can c.requires.next

pub returns-clause-can : goal.returns-clause-can
returns-clause-can g c =
    can_still (g.F.Finder.count c.args.finder.now) c.args.table.now c.args.documents.now.items c.step_of.new.documents.items c.args.clients.now.items c.args.client c.index_mut.result.now c.step_of.new.client
    (slice_get_read c.args.clients.now.items (length c.args.clients.now.items) c.args.client c.index_mut.result.now refl
    (slice_get_within c.args.clients.now.items c.args.client c.requires.next.who c.requires.next.is) c.index_mut.ensures.value)
    c.requires.can c.step_of.ensures.taken

pub returns-clause-others : goal.returns-clause-others
returns-clause-others g c = others_same c.args.clients.now.items c.args.client c.step_of.new.client

pub returns-clause-fewer : goal.returns-clause-fewer
returns-clause-fewer g c =
    fewer_left c.args.documents.now.items c.step_of.new.documents.items c.args.clients.now.items c.args.client c.index_mut.result.now c.step_of.new.client
    (slice_get_read c.args.clients.now.items (length c.args.clients.now.items) c.args.client c.index_mut.result.now refl
    (slice_get_within c.args.clients.now.items c.args.client c.requires.next.who c.requires.next.is) c.index_mut.ensures.value)
    c.step_of.ensures.taken

pub returns-clause-runs : goal.returns-clause-runs
returns-clause-runs g c = λ plan openings order rest at.
    one_taken plan openings order c.args.table.now c.args.documents.now.items c.args.clients.now.items rest c.args.client c.index_mut.result.now
    (slice_get_read c.args.clients.now.items (length c.args.clients.now.items) c.args.client c.index_mut.result.now refl
    (slice_get_within c.args.clients.now.items c.args.client c.requires.next.who c.requires.next.is) c.index_mut.ensures.value)
    c.step_of.new.documents.items c.step_of.new.client c.step_of.ensures.taken at
