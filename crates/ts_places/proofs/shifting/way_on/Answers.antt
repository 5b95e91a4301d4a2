use Rattle.std.proofs.Common.{get_or, arith}
use Rattle.ts_core.specs.declared.action.Action.TheVariants.{Shift}
use Rattle.ts_places.proofs.SmallLemmas.{read_any}
use Rattle.ts_places.proofs.ActionLemmas.{no_shift_more, no_shift_all, reduce_is_no_shift, accept_is_no_shift}
use Rattle.ts_places.proofs.shifting.way_on.Goals as goal

pub loop-action-preserved-in-Reduce : goal.loop-action-preserved-in-Reduce
loop-action-preserved-in-Reduce c =
    let x = get_or c.args.actions.now c.loop-action.action-index (Shift 0) in
    no_shift_more c.args.actions.now c.loop-action.action-index x c.loop-action-test.true (read_any c.args.actions.now c.loop-action.action-index (Shift 0) x c.loop-action-test.true)
    (λ state e. reduce_is_no_shift x c.in-Reduce.field-0 state c.in-Reduce.is e) c.loop-action.invariant

pub loop-action-preserved : goal.loop-action-preserved
loop-action-preserved c =
    let x = get_or c.args.actions.now c.loop-action.action-index (Shift 0) in
    no_shift_more c.args.actions.now c.loop-action.action-index x c.loop-action-test.true (read_any c.args.actions.now c.loop-action.action-index (Shift 0) x c.loop-action-test.true)
    (λ state e. accept_is_no_shift x state c.in-Accept.is e) c.loop-action.invariant

pub returns : goal.returns
returns c = (
  (let a = c.if-is_empty.false in let b = c.is_empty.ensures in grind arith),
  no_shift_all c.args.actions.now c.loop-action.action-index (let h = c.loop-action-test.false in omega arith) c.loop-action.invariant,
)
