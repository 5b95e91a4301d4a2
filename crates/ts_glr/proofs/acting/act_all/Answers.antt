use Rattle.std.proofs.Common.{◌∙◌, sym, ap, refl, subst, ℕ, ◌++◌, List, take, slice_index_or}
use Rattle.std.proofs.lemmas.List.{take_more}
use Rattle.std.proofs.lemmas.List.Elements.{Contains-get_or}
use Rattle.ts_core.specs.declared.action.Action.{Action}
use Rattle.ts_core.specs.declared.action.Action.TheVariants.{Shift}
use Rattle.ts_table.specs.Tables.{ActsBy}
use Rattle.ts_gss.specs.Stacks.{stack_at, trees_on}
use Rattle.ts_steps.specs.LiveHeads.{config_of, packed_of}
use Rattle.ts_steps.specs.declared.head.StackHead.{StackHead}
use Rattle.ts_glr.specs.Search.{Acting, heads_of}
use Rattle.ts_glr.proofs.StackLemmas.{own_stays, config_stays, packed_stays, read_stays, trees_stay, ahead_stays, grows_none, grows_more}
use Rattle.ts_glr.proofs.ActLemmas.{acting_begins, acting_more, acted_deep}
use Rattle.ts_glr.proofs.acting.act_all.Goals as goal

pub loop-action-init : goal.loop-action-init
loop-action-init c = record {
  grows = grows_none c.args.readings.now.graph;
  form = c.requires.form;
  stuck = refl;
  acting = λ text long ahead.
      acting_begins c.args.table.now text (trees_on (stack_at c.args.readings.now.graph c.args.head.top)) (config_of c.args.readings.now.graph c.args.head) (packed_of c.args.readings.now.graph c.args.head) c.args.found c.args.readings.now.graph c.args.readings.now.live.items c.args.readings.now.best;
}

pub act-requires-clause-live : goal.act-requires-clause-live
act-requires-clause-live c = own_stays c.args.table.now c.args.setting.now.size c.args.readings.now.graph c.loop-action.readings.graph c.args.head c.loop-action.invariant.grows c.requires.live

pub act-requires-clause-sees : goal.act-requires-clause-sees
act-requires-clause-sees c =
    let r = c.requires.sees in
    (r.0, r.1, ahead_stays c.args.table.now c.args.setting.now.size r.0 c.args.readings.now.graph c.loop-action.readings.graph c.args.head c.args.found c.loop-action.invariant.grows c.requires.live.live r.2)

pub act-requires-clause-acts : goal.act-requires-clause-acts
act-requires-clause-acts c =
    let item : Action = slice_index_or c.args.actions.now c.loop-action.action-index (Shift 0) in
    subst (λ (read : List ℕ). ActsBy c.args.table.now read c.args.found.token.0 item)
    (sym (read_stays c.args.table.now c.args.setting.now.size c.args.readings.now.graph c.loop-action.readings.graph c.args.head c.loop-action.invariant.grows c.requires.live.live))
    (c.requires.act item (Contains-get_or c.args.actions.now c.loop-action.action-index (Shift 0) c.loop-action-test.true))

pub returns-then-branch-clause-deep : goal.returns-then-branch-clause-deep
returns-then-branch-clause-deep c true_is =
    let item : Action = slice_index_or c.args.actions.now c.loop-action.action-index (Shift 0) in
    let r = c.requires.sees in (
      item,
      Contains-get_or c.args.actions.now c.loop-action.action-index (Shift 0) c.loop-action-test.true,
      acted_deep c.args.table.now r.0 (trees_on (stack_at c.args.readings.now.graph c.args.head.top)) (config_of c.args.readings.now.graph c.args.head) (packed_of c.args.readings.now.graph c.args.head) c.args.found c.loop-action.readings.graph c.act.new.readings.graph c.args.head item c.in_ok-moved.moved c.loop-action.readings.best c.act.new.readings.best
          (packed_stays c.args.table.now c.args.setting.now.size c.args.readings.now.graph c.loop-action.readings.graph c.args.head c.loop-action.invariant.grows c.requires.live.live)
          (c.in_ok-moved.ensures.acted r.0 r.1 (ahead_stays c.args.table.now c.args.setting.now.size r.0 c.args.readings.now.graph c.loop-action.readings.graph c.args.head c.args.found c.loop-action.invariant.grows c.requires.live.live r.2))
          (sym c.in_ok-add.ensures.deep ∙ c.if-branch.true),
    )

pub loop-action-preserved : goal.loop-action-preserved
loop-action-preserved c =
    let item : Action = slice_index_or c.args.actions.now c.loop-action.action-index (Shift 0) in
    let trees = trees_on (stack_at c.args.readings.now.graph c.args.head.top) in
    record {
      grows = grows_more c.args.readings.now.graph c.loop-action.readings.graph c.act.new.readings.graph c.loop-action.invariant.grows c.in_ok-moved.ensures.grows;
      form = c.in_ok-moved.ensures.form;
      stuck = c.in_ok-moved.ensures.stuck ∙ c.loop-action.invariant.stuck;
      acting = λ text long ahead. subst (λ (done : List Action). Acting c.args.table.now text trees c.act.new.readings.graph (config_of c.args.readings.now.graph c.args.head) (packed_of c.args.readings.now.graph c.args.head) c.args.found done c.args.readings.now.live.items c.add.new.live.items c.args.readings.now.best c.act.new.readings.best)
          (sym (take_more c.args.actions.now c.loop-action.action-index (Shift 0) c.loop-action-test.true))
          (acting_more c.args.table.now text trees (config_of c.args.readings.now.graph c.args.head) (packed_of c.args.readings.now.graph c.args.head) c.args.found c.loop-action.readings.graph c.act.new.readings.graph c.args.head (take c.loop-action.action-index c.args.actions.now) item c.in_ok-moved.moved
          c.args.readings.now.live.items c.loop-action.readings.live.items c.add.new.live.items c.args.readings.now.best c.loop-action.readings.best c.act.new.readings.best
          (config_stays c.args.table.now c.args.setting.now.size c.args.readings.now.graph c.loop-action.readings.graph c.args.head c.loop-action.invariant.grows c.requires.live.live)
          (packed_stays c.args.table.now c.args.setting.now.size c.args.readings.now.graph c.loop-action.readings.graph c.args.head c.loop-action.invariant.grows c.requires.live.live)
          (trees_stay c.args.readings.now.graph c.loop-action.readings.graph c.args.head c.loop-action.invariant.grows c.requires.live.live.there)
          c.in_ok-moved.ensures.grows (c.loop-action.invariant.acting text long ahead)
          (c.in_ok-moved.ensures.acted text long (ahead_stays c.args.table.now c.args.setting.now.size text c.args.readings.now.graph c.loop-action.readings.graph c.args.head c.args.found c.loop-action.invariant.grows c.requires.live.live ahead))
          (sym c.in_ok-add.ensures.deep ∙ c.if-branch.false) (c.in_ok-add.ensures.live ∙ ap (λ (l : List StackHead). l ++ heads_of c.in_ok-moved.moved) c.in_ok-moved.ensures.live));
    }
