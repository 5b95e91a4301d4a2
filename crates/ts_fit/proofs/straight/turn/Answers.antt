use Rattle.std.proofs.Common.{length}
use Rattle.std.proofs.lemmas.Result.{on_ok_weaker}
use Rattle.ts_fit.proofs.StraightLemmas.{running_done, running_frame, running_open}
use Rattle.ts_fit.proofs.straight.turn.Goals as goal

pub next_open-requires-clause-there : goal.next_open-requires-clause-there
next_open-requires-clause-there c =
    (running_frame c.args.grammar.now (length c.args.grammar.now.rules) c.args.done.now.keys c.args.stack.now.items c.pop.new.self.items c.in-Some.frame c.in-Some.ensures.items c.requires).0

pub next_open-requires-clause-settled : goal.next_open-requires-clause-settled
next_open-requires-clause-settled c =
    (running_frame c.args.grammar.now (length c.args.grammar.now.rules) c.args.done.now.keys c.args.stack.now.items c.pop.new.self.items c.in-Some.frame c.in-Some.ensures.items c.requires).1

pub returns-in-Some-next_open : goal.returns-in-Some-next_open
returns-in-Some-next_open c =
    on_ok_weaker c.push_both.result
    (λ pushed.
    running_open c.args.grammar.now (length c.args.grammar.now.rules) c.args.done.now.keys c.args.stack.now.items c.pop.new.self.items c.push_both.new.stack.items c.in-Some.frame c.in-Some-next_open.child
    c.in-Some.ensures.items c.in-Some-next_open.ensures.there c.in-Some-next_open.ensures.settled pushed c.requires)
    c.push_both.ensures

pub returns-in-None : goal.returns-in-None
returns-in-None c =
    on_ok_weaker c.add.result
    (λ adds.
    running_done c.args.grammar.now (length c.args.grammar.now.rules) c.args.done.now.keys c.add.new.found.keys c.args.stack.now.items c.pop.new.self.items c.in-Some.frame
    c.in-Some.ensures.items c.in-None.ensures.none c.requires adds)
    c.add.ensures
