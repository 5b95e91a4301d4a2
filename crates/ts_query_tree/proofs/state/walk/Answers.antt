use Rattle.std.proofs.Common.{◌≡◌, length, sym, subst, arith, refl}
use Rattle.ts_query_tree.specs.Machine.{finished}
use Rattle.ts_query_tree.specs.Reads.{IsOutcome}
use Rattle.ts_query_tree.specs.States.{IsTurn}
use Rattle.ts_query_tree.proofs.StateLemmas.{ends_as, state_begins}
use Rattle.ts_query_tree.proofs.state.walk.Goals as goal

pub signs-init : goal.signs-init
signs-init c = state_begins c.args.text.now c.new.result c.new-2.result c.new.ensures c.new-2.ensures

pub returns-then-at-text : goal.returns-then-at-text
returns-then-at-text c =
    let at_end : c.gap_end-at.result ≡ length c.args.text.now = omega (arith, c.if-at-text.true) in
    subst (IsOutcome c.args.text.now) (sym c.in_ok-outcome.ensures)
    (ends_as c.args.text.now c.signs.state c.signs.invariant c.gap_end-at.result c.gap_end-at.ensures.value at_end (finished c.signs.state.level) refl)

pub advance-requires-clause-state : goal.advance-requires-clause-state
advance-requires-clause-state c = c.signs.invariant

pub signs-smaller : goal.signs-smaller
signs-smaller c =
    let t = subst (IsTurn c.args.text.now c.signs.state) c.in-Goes.is c.in_ok-next.ensures in
    omega (arith, t.1, t.0.within)

pub signs-preserved : goal.signs-preserved
signs-preserved c = (subst (IsTurn c.args.text.now c.signs.state) c.in-Goes.is c.in_ok-next.ensures).0
