use Rattle.ts_gss.specs.Stacks.{stack_at, AreExact}
use Rattle.ts_steps.proofs.ReparseLemmas.{some_has}
use Rattle.ts_steps.proofs.lengthening.take_elements.Goals as goal

pub is_exact-requires : goal.is_exact-requires
is_exact-requires g c = c.requires.live.live.there

pub returns-in_ok-next-in-Some-elements_at-clause-exact : goal.returns-in_ok-next-in-Some-elements_at-clause-exact
returns-in_ok-next-in-Some-elements_at-clause-exact g c = some_has (AreExact (stack_at c.args.graph.now c.args.head.top)) c.in_ok-next-in-Some-elements_at.next (c.is_exact.ensures c.if-not-is_exact.false)
