use Rattle.std.proofs.Common.{ℕ, refl, subst}
use Rattle.ts_gss.specs.Stacks.{stack_at, state_on, AreExact}
use Rattle.ts_steps.specs.Heads.{CanTake}
use Rattle.ts_steps.proofs.ReparseLemmas.{take_gives, some_has}
use Rattle.ts_steps.proofs.reparsing.take.Goals as goal

pub take_over-requires-clause-settled : goal.take_over-requires-clause-settled
take_over-requires-clause-settled g c =
    (c.requires.own c.args.head.place c.state.result c.in-Some.node.now (c.in-Some.ensures.gives c.in-Some.node.now refl)).settled

pub take_over-requires-clause-own : goal.take_over-requires-clause-own
take_over-requires-clause-own g c =
    (c.requires.own c.args.head.place c.state.result c.in-Some.node.now (c.in-Some.ensures.gives c.in-Some.node.now refl)).own

pub returns-in_ok-next-in-Some-clause-taken : goal.returns-in_ok-next-in-Some-clause-taken
returns-in_ok-next-in-Some-clause-taken g c =
    let given = c.in-Some.ensures.gives c.in-Some.node.now refl in
    let offered = c.requires.own c.args.head.place c.state.result c.in-Some.node.now given in
    take_gives c.args.table.now c.args.size c.args.graph.now c.take_over.new.graph c.args.head c.in-Some.node.now
    (g.O.Offers.gives c.args.offers.now c.args.head.place (state_on (stack_at c.args.graph.now c.args.head.top)))
    ((state : ℕ) → CanTake c.args.table.now c.args.size c.args.graph.now c.args.head c.in-Some.node.now state → ⊥) c.in_ok-next-in-Some.next
    (subst (λ (s : ℕ). g.O.Offers.gives c.args.offers.now c.args.head.place s c.in-Some.node.now) c.state.ensures given) offered.some c.in_ok-next-in-Some.ensures.taken c.in_ok-next-in-Some.ensures.stand

pub is_exact-requires : goal.is_exact-requires
is_exact-requires g c = c.requires.live.live.there

pub returns-in_ok-next-in-Some-clause-exact : goal.returns-in_ok-next-in-Some-clause-exact
returns-in_ok-next-in-Some-clause-exact g c = some_has (AreExact (stack_at c.args.graph.now c.args.head.top)) c.in_ok-next-in-Some.next (c.is_exact.ensures c.if-not-is_exact.false)
