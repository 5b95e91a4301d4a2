use Rattle.std.proofs.Common.{◌≡◌, ◌∙◌, sym, refl, subst, get_or, true, false, List, arith}
use Rattle.std.specs.List.{Contains}
use Rattle.ts_core.specs.declared.action.Action.{Action}
use Rattle.ts_core.specs.declared.action.Action.TheVariants.{Shift}
use Rattle.ts_table.specs.Tables.{actions_of}
use Rattle.ts_reductions.proofs.AddLemmas.{read_any, item_in}
use Rattle.ts_places.specs.Nothing.{IsOverNothing}
use Rattle.ts_places.proofs.NothingLemmas.{first_productions, none_first, none_more, none_all}
use Rattle.ts_places.proofs.nothing.some_is_over_nothing.Goals as goal

pub loop-action-init : goal.loop-action-init
loop-action-init c = none_first (IsOverNothing c.args.table.now)

pub is_over_nothing-requires : goal.is_over_nothing-requires
is_over_nothing-requires c =
    let r = c.requires in
    let x = get_or c.actions-action-items.result.now c.loop-action.action-index (Shift 0) in
    let low = c.loop-action-test.true in
    let there = item_in c.actions-action-items.result.now (actions_of c.args.table.now 0 c.args.token.0) c.loop-action.action-index x low (read_any c.actions-action-items.result.now c.loop-action.action-index (Shift 0) x low) c.actions-action-items.ensures.list in
    (c.args.table.now, r.0, r.1, first_productions c.move_laws_hold.ensures c.args.table.now c.stands.ensures c.args.token.0 x there)

pub returns-then-is_over_nothing : goal.returns-then-is_over_nothing
returns-then-is_over_nothing c =
    let r = c.requires in
    let x = get_or c.actions-action-items.result.now c.loop-action.action-index (Shift 0) in
    let low = c.loop-action-test.true in
    let there = item_in c.actions-action-items.result.now (actions_of c.args.table.now 0 c.args.token.0) c.loop-action.action-index x low (read_any c.actions-action-items.result.now c.loop-action.action-index (Shift 0) x low) c.actions-action-items.ensures.list in (
      (λ h. (x, there, (c.is_over_nothing.ensures c.args.table.now r.0 r.1 (first_productions c.move_laws_hold.ensures c.args.table.now c.stands.ensures c.args.token.0 x there)).0 c.if-is_over_nothing.true)),
      (λ a. refl),
    )

pub loop-action-preserved : goal.loop-action-preserved
loop-action-preserved c =
    let r = c.requires in
    let x = get_or c.actions-action-items.result.now c.loop-action.action-index (Shift 0) in
    let low = c.loop-action-test.true in
    let is = read_any c.actions-action-items.result.now c.loop-action.action-index (Shift 0) x low in
    let there = item_in c.actions-action-items.result.now (actions_of c.args.table.now 0 c.args.token.0) c.loop-action.action-index x low is c.actions-action-items.ensures.list in
    none_more (IsOverNothing c.args.table.now) c.actions-action-items.result.now c.loop-action.action-index x low is
    (λ o.
    let yes_it = (c.is_over_nothing.ensures c.args.table.now r.0 r.1 (first_productions c.move_laws_hold.ensures c.args.table.now c.stands.ensures c.args.token.0 x there)).1 o in
    let f : false ≡ true = sym c.if-is_over_nothing.false ∙ yes_it in
    cc) c.loop-action.invariant

pub returns : goal.returns
returns c = (
  (λ h. absurd (let f : false ≡ true = h in cc)),
  (λ a. absurd (none_all (IsOverNothing c.args.table.now) c.actions-action-items.result.now c.loop-action.action-index (let h = c.loop-action-test.false in omega arith) c.loop-action.invariant a.0
      (subst (λ (l : List Action). Contains l a.0) (sym c.actions-action-items.ensures.list) a.1) a.2)),
)
