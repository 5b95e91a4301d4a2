use Rattle.std.proofs.Common.{◌≡◌, ◌∙◌, sym, true, false}
use Rattle.ts_replay.proofs.LoopLemmas.{next_passed}
use Rattle.ts_replay.proofs.running.take_next.Goals as goal

pub take_step-requires-clause-next : goal.take_step-requires-clause-next
take_step-requires-clause-next g c = c.has_next.ensures.0 c.if-has_next.true

pub returns-else-has_next-clause-runs : goal.returns-else-has_next-clause-runs
returns-else-has_next-clause-runs g c = λ plan openings order rest at.
    next_passed plan openings order c.args.table.now c.args.documents.now.items c.args.clients.now.items rest c.args.client
    (λ next. let f : true ≡ false = sym (c.has_next.ensures.1 next) ∙ c.if-has_next.false in absurd cc) at
