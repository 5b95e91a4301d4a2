use Rattle.std.proofs.Common.{refl}
use Rattle.ts_glr.proofs.CrossLemmas.{left_by, waits_by, fails_by}
use Rattle.ts_glr.proofs.crossing.ask_in_turn.Goals as goal

pub returns-then-not-is_due-clause-stays : goal.returns-then-not-is_due-clause-stays
returns-then-not-is_due-clause-stays c = λ none. record { graph = refl; frontier = refl; ends = refl; place = refl }

pub returns-in-Waits-clause-stays : goal.returns-in-Waits-clause-stays
returns-in-Waits-clause-stays c = λ none. waits_by c.args.spread.now c.ask.new.spread c.args.from c.in_ok-ask.field-0 c.in-Waits.is c.in_ok-ask.ensures.asks

pub returns-in-Fails-clause-stays : goal.returns-in-Fails-clause-stays
returns-in-Fails-clause-stays c = λ none. fails_by c.args.spread.now c.ask.new.spread c.args.from c.in_ok-ask.field-0 c.in-Fails.is c.in_ok-ask.ensures.asks

pub returns-in-Leaves-clause-left : goal.returns-in-Leaves-clause-left
returns-in-Leaves-clause-left c = left_by c.args.spread.now c.ask.new.spread c.args.from c.in_ok-ask.field-0 c.in-Leaves.left c.in-Leaves.is c.in_ok-ask.ensures.asks
