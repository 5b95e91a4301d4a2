use Rattle.std.proofs.Common.{get_or, arith}
use Rattle.ts_core.specs.declared.action.Action.TheVariants.{Shift}
use Rattle.ts_table.specs.Tables.{actions_of}
use Rattle.ts_reductions.specs.Asking.{HasAction}
use Rattle.ts_reductions.proofs.AddLemmas.{read_any, item_in}
use Rattle.ts_places.proofs.DueLemmas.{no_actions, actions_on, actions_end}
use Rattle.ts_places.proofs.seeking.add_top.Goals as goal

pub loop-action-init : goal.loop-action-init
loop-action-init c = λ seek. no_actions c.args.table.now c.args.graph.now seek c.args.top c.args.dues.now.items

pub loop-action-preserved : goal.loop-action-preserved
loop-action-preserved c = λ seek.
    let has : HasAction c.args.table.now c.args.graph.now c.args.top (get_or c.actions-action-items.result.now c.loop-action.action-index (Shift 0)) = record {
      head = c.head-head.result;
      at = c.head-head.ensures;
      acts = item_in c.actions-action-items.result.now (actions_of c.args.table.now c.head-head.result.state c.args.top.token.0) c.loop-action.action-index (get_or c.actions-action-items.result.now c.loop-action.action-index (Shift 0)) c.loop-action-test.true (read_any c.actions-action-items.result.now c.loop-action.action-index (Shift 0) (get_or c.actions-action-items.result.now c.loop-action.action-index (Shift 0)) c.loop-action-test.true) c.actions-action-items.ensures.list;
    } in
    actions_on c.args.table.now c.args.graph.now seek c.args.top c.actions-action-items.result.now c.loop-action.action-index (get_or c.actions-action-items.result.now c.loop-action.action-index (Shift 0)) c.args.dues.now.items c.loop-action.dues.items c.add_action.new.dues.items c.loop-action-test.true
    (read_any c.actions-action-items.result.now c.loop-action.action-index (Shift 0) (get_or c.actions-action-items.result.now c.loop-action.action-index (Shift 0)) c.loop-action-test.true) (c.loop-action.invariant seek) (c.in_ok-add_action.ensures c.args.table.now c.args.graph.now seek has)

pub returns : goal.returns
returns c = λ seek.
    actions_end c.args.table.now c.args.graph.now seek c.args.top c.head-head.result c.actions-action-items.result.now c.loop-action.action-index c.args.dues.now.items c.loop-action.dues.items c.head-head.ensures c.actions-action-items.ensures.list (let h = c.loop-action-test.false in omega arith) (c.loop-action.invariant seek)
