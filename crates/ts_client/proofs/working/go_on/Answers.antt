use Rattle.ts_client.proofs.BetweenLemmas.{may_next, next_or_stopped, one_reply_more}
use Rattle.ts_client.proofs.working.go_on.Goals as goal

pub serve_next-requires-clause-may : goal.serve_next-requires-clause-may
serve_next-requires-clause-may g c = λ κs lives. may_next (g.F.Finder.finds c.args.finder.now) c.args.plan.now c.args.table.now c.args.number c.args.steps.now c.args.shelves.now
    c.requires.at.0 c.args.client.now c.requires.at.1 (g.F.Finder.count c.args.finder.now) c.requires.plan c.requires.queries c.requires.steps c.requires.shelves c.requires.more

pub returns-clause-next : goal.returns-clause-next
returns-clause-next g c = λ first at. next_or_stopped (g.F.Finder.finds c.args.finder.now) c.args.plan.now c.args.table.now c.args.number c.args.steps.now c.args.shelves.now
    first c.args.client.now c.serve_next.new.client c.serve_next.result
    c.next_reply_is_served.ensures.next c.next_reply_is_served.ensures.elsewhere c.next_reply_is_served.ensures.idle c.requires.shelves at c.serve_next.ensures.next

pub returns-clause-fewer : goal.returns-clause-fewer
returns-clause-fewer g c = λ yes. one_reply_more (g.F.Finder.finds c.args.finder.now) c.args.table.now c.args.number c.args.steps.now c.args.shelves.now
    c.args.client.now c.serve_next.new.client c.serve_next.result c.serve_next.ensures.next yes
