use Rattle.std.proofs.Common.{subst, Bool, true, false, length, get_or, arith}
use Rattle.std.proofs.lemmas.Option.{slice_get_within}
use Rattle.ts_core.specs.declared.action.Action.TheVariants.{Shift}
use Rattle.ts_table.specs.Tables.{actions_of}
use Rattle.ts_reductions.specs.Asking.{HasAction, Adds, ByAction}
use Rattle.ts_reductions.proofs.AddLemmas.{read_any, item_in, no_actions, actions_on, actions_end, deep_action}
use Rattle.ts_reductions.proofs.asking.add_top.Goals as goal

pub head-head-requires : goal.head-head-requires
head-head-requires c = let r = c.requires in slice_get_within c.args.graph.now.heads c.args.top.head r.1.seen.at.head r.1.seen.at.is

pub loop-action-init : goal.loop-action-init
loop-action-init c = λ text ready. no_actions c.args.table.now (length text) c.args.graph.now c.args.batch c.args.mades.now.items c.args.top

pub add_action-requires : goal.add_action-requires
add_action-requires c =
    let r = c.requires in
    let has : HasAction c.args.table.now c.args.graph.now c.args.top (get_or c.actions-action-items.result.now c.loop-action.action-index (Shift 0)) = record {
      head = c.head-head.result;
      at = c.head-head.ensures;
      acts = item_in c.actions-action-items.result.now (actions_of c.args.table.now c.head-head.result.state c.args.top.token.0) c.loop-action.action-index (get_or c.actions-action-items.result.now c.loop-action.action-index (Shift 0)) c.loop-action-test.true (read_any c.actions-action-items.result.now c.loop-action.action-index (Shift 0) (get_or c.actions-action-items.result.now c.loop-action.action-index (Shift 0)) c.loop-action-test.true) c.actions-action-items.ensures.list;
    } in
    (r.0, r.1, has)

pub returns-then-not-branch : goal.returns-then-not-branch
returns-then-not-branch c = λ text ready.
    let has : HasAction c.args.table.now c.args.graph.now c.args.top (get_or c.actions-action-items.result.now c.loop-action.action-index (Shift 0)) = record {
      head = c.head-head.result;
      at = c.head-head.ensures;
      acts = item_in c.actions-action-items.result.now (actions_of c.args.table.now c.head-head.result.state c.args.top.token.0) c.loop-action.action-index (get_or c.actions-action-items.result.now c.loop-action.action-index (Shift 0)) c.loop-action-test.true (read_any c.actions-action-items.result.now c.loop-action.action-index (Shift 0) (get_or c.actions-action-items.result.now c.loop-action.action-index (Shift 0)) c.loop-action-test.true) c.actions-action-items.ensures.list;
    } in
    let deep : Adds c.args.table.now (length text) c.args.graph.now c.args.batch (ByAction c.args.top (get_or c.actions-action-items.result.now c.loop-action.action-index (Shift 0))) c.loop-action.mades.items c.add_action.new.mades.items false =
    subst (λ (b : Bool). Adds c.args.table.now (length text) c.args.graph.now c.args.batch (ByAction c.args.top (get_or c.actions-action-items.result.now c.loop-action.action-index (Shift 0))) c.loop-action.mades.items c.add_action.new.mades.items b) c.if-not-branch.true (c.in_ok-add_action.ensures text ready has) in
    deep_action c.args.table.now (length text) c.args.graph.now c.args.batch c.args.mades.now.items c.args.top (get_or c.actions-action-items.result.now c.loop-action.action-index (Shift 0)) deep

pub loop-action-preserved : goal.loop-action-preserved
loop-action-preserved c = λ text ready.
    let has : HasAction c.args.table.now c.args.graph.now c.args.top (get_or c.actions-action-items.result.now c.loop-action.action-index (Shift 0)) = record {
      head = c.head-head.result;
      at = c.head-head.ensures;
      acts = item_in c.actions-action-items.result.now (actions_of c.args.table.now c.head-head.result.state c.args.top.token.0) c.loop-action.action-index (get_or c.actions-action-items.result.now c.loop-action.action-index (Shift 0)) c.loop-action-test.true (read_any c.actions-action-items.result.now c.loop-action.action-index (Shift 0) (get_or c.actions-action-items.result.now c.loop-action.action-index (Shift 0)) c.loop-action-test.true) c.actions-action-items.ensures.list;
    } in
    let added : Adds c.args.table.now (length text) c.args.graph.now c.args.batch (ByAction c.args.top (get_or c.actions-action-items.result.now c.loop-action.action-index (Shift 0))) c.loop-action.mades.items c.add_action.new.mades.items true =
    subst (λ (b : Bool). Adds c.args.table.now (length text) c.args.graph.now c.args.batch (ByAction c.args.top (get_or c.actions-action-items.result.now c.loop-action.action-index (Shift 0))) c.loop-action.mades.items c.add_action.new.mades.items b) c.if-not-branch.false (c.in_ok-add_action.ensures text ready has) in
    actions_on c.args.table.now (length text) c.args.graph.now c.args.batch c.args.mades.now.items c.args.top c.actions-action-items.result.now c.loop-action.action-index (get_or c.actions-action-items.result.now c.loop-action.action-index (Shift 0)) c.loop-action.mades.items c.add_action.new.mades.items c.loop-action-test.true (read_any c.actions-action-items.result.now c.loop-action.action-index (Shift 0) (get_or c.actions-action-items.result.now c.loop-action.action-index (Shift 0)) c.loop-action-test.true) (c.loop-action.invariant text ready) added

pub returns : goal.returns
returns c = λ text ready.
    actions_end c.args.table.now (length text) c.args.graph.now c.args.batch c.args.mades.now.items c.args.top c.head-head.result c.actions-action-items.result.now c.loop-action.action-index c.loop-action.mades.items c.head-head.ensures c.actions-action-items.ensures.list (let h = c.loop-action-test.false in omega arith) (c.loop-action.invariant text ready)
