use Rattle.std.proofs.Common.{drop}
use Rattle.spec_trees.specs.Trees.{bare}
use Rattle.spec_runs.specs.Configurations.{stack_symbols, pushed}
use Rattle.spec_forced.proofs.ItemLemmas.{same_self}
use Rattle.spec_forced.proofs.SeenLemmas.{agree_self}
use Rattle.spec_forced.proofs.OnlyLemmas.{alike_back}
use Rattle.spec_forced.proofs.RunLemmas.{met, from_below, from_pushed, alike_pushed, fresh_alike}
use Rattle.spec_forced.proofs.laws.pushed_whole.Goals as goal

pub returns-clause-meet : goal.returns-clause-meet
returns-clause-meet c g fit text at t e valid s are =
    let laws = c.laws_hold.ensures in
    let f = s (stack_symbols at.stack) (drop at.place text) (same_self g (stack_symbols at.stack)) (agree_self e (drop at.place text)) in
    (met laws g text fit at t e f valid are, from_below laws g text fit at t e f valid are, from_pushed laws g text fit at t e f valid are)

pub returns-clause-ends : goal.returns-clause-ends
returns-clause-ends c g fit text at t e valid s are =
    alike_pushed c.laws_hold.ensures g text fit at t e (s (stack_symbols at.stack) (drop at.place text) (same_self g (stack_symbols at.stack)) (agree_self e (drop at.place text))) valid are

pub returns-clause-fresh : goal.returns-clause-fresh
returns-clause-fresh c g fit text at t e valid s are o =
    let a = alike_pushed c.laws_hold.ensures g text fit at t e (s (stack_symbols at.stack) (drop at.place text) (same_self g (stack_symbols at.stack)) (agree_self e (drop at.place text))) valid are in
    (fresh_alike g text at (pushed at (bare t)) a o, fresh_alike g text (pushed at (bare t)) at (alike_back g text at (pushed at (bare t)) a) o)
