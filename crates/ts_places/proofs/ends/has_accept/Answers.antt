use Rattle.std.proofs.Common.{◌≡◌, subst, sym, get_or, true≢false, refl, arith}
use Rattle.std.specs.List.{Contains}
use Rattle.ts_core.specs.declared.action.Action.{Action}
use Rattle.ts_core.specs.declared.action.Action.TheVariants.{Shift, Accept}
use Rattle.ts_places.proofs.SmallLemmas.{read_any, item_in}
use Rattle.ts_places.proofs.EndLemmas.{no_accept_more, no_accept_all, shift_is_no_accept, reduce_is_no_accept}
use Rattle.ts_places.proofs.ends.has_accept.Goals as goal

pub returns-in-Accept : goal.returns-in-Accept
returns-in-Accept c =
    let x = get_or c.args.actions.now c.loop-action.action-index (Shift 0) in
    let there = item_in c.args.actions.now c.loop-action.action-index x c.loop-action-test.true (read_any c.args.actions.now c.loop-action.action-index (Shift 0) x c.loop-action-test.true) in
    let is : x ≡ Accept = c.in-Accept.is in
    ((λ e. subst (λ (a : Action). Contains c.args.actions.now a) is there), (λ w. refl))

pub loop-action-preserved-in-Shift : goal.loop-action-preserved-in-Shift
loop-action-preserved-in-Shift c =
    let x = get_or c.args.actions.now c.loop-action.action-index (Shift 0) in
    no_accept_more c.args.actions.now c.loop-action.action-index x c.loop-action-test.true (read_any c.args.actions.now c.loop-action.action-index (Shift 0) x c.loop-action-test.true)
    (shift_is_no_accept x c.in-Shift.field-0 c.in-Shift.is) c.loop-action.invariant

pub loop-action-preserved : goal.loop-action-preserved
loop-action-preserved c =
    let x = get_or c.args.actions.now c.loop-action.action-index (Shift 0) in
    no_accept_more c.args.actions.now c.loop-action.action-index x c.loop-action-test.true (read_any c.args.actions.now c.loop-action.action-index (Shift 0) x c.loop-action-test.true)
    (reduce_is_no_accept x c.in-Reduce.field-0 c.in-Reduce.is) c.loop-action.invariant

pub returns : goal.returns
returns c = ((λ e. absurd (true≢false (sym e))), (λ w. absurd (no_accept_all c.args.actions.now c.loop-action.action-index (let h = c.loop-action-test.false in omega arith) c.loop-action.invariant w)))
