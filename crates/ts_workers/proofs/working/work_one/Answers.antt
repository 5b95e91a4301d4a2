use Rattle.std.proofs.Common.{sym, subst}
use Rattle.ts_client.specs.declared.working.Client.{Client}
use Rattle.ts_client.specs.Working.{IsNewClient, HasWorked}
use Rattle.ts_workers.proofs.ListLemmas.{there_is}
use Rattle.ts_workers.proofs.working.work_one.Goals as goal

pub work-requires-clause-lexer : goal.work-requires-clause-lexer
work-requires-clause-lexer g c = λ κs lives.
    let steps = there_is c.args.plan.now.clients c.args.number c.requires.next.there in
    (c.requires.next.may steps.0 steps.1).lexer

pub work-requires-clause-begins : goal.work-requires-clause-begins
work-requires-clause-begins g c = λ κs lives steps is.
    subst (λ (x : Client). IsNewClient c.args.table.now c.args.shelves.now steps x) (sym c.replace-client.ensures.value) (c.requires.next.may steps is).begins

pub returns : goal.returns
returns g c steps is =
    subst (λ (x : Client). HasWorked (g.F.Finder.finds c.args.finder.now) c.args.plan.now c.args.table.now.grammar c.args.number steps x.desks.items c.work.result)
    c.replace-client.ensures.value (c.work.ensures.works steps is)
