use Rattle.std.proofs.Common.{◌≡◌, ◌∙◌, sym, subst, ◌+◌, ◌^◌, ◌<◌, false, true, List, length, arith}
use Rattle.ts_core.specs.declared.action.Action.{Action}
use Rattle.ts_places.proofs.NothingLemmas.{token_by, absent_by, token_tells, token_asks, extra_bytes, passed_on, passed_back, has_actions, has_no_actions}
use Rattle.ts_places.proofs.nothing.is_of_nothing.Goals as goal

pub loop-token-init : goal.loop-token-init
loop-token-init g c = record { made = c.requires.made; within = omega arith; same = ((λ x. x), (λ x. x)) }

pub look_first-requires-clause-made : goal.look_first-requires-clause-made
look_first-requires-clause-made g c = c.loop-token.invariant.made

pub look_first-requires-clause-within : goal.look_first-requires-clause-within
look_first-requires-clause-within g c = c.loop-token.invariant.within

pub returns-in-Absent-clause-is : goal.returns-in-Absent-clause-is
returns-in-Absent-clause-is g c = (
  (λ h. absurd (let f : false ≡ true = h in cc)),
  (λ a. absurd (absent_by c.look_laws_hold.ensures c.args.table.now c.stands.ensures (g.L.Text.Content.bytes c.args.text.now) c.loop-token.place c.look_first.result c.look_first.ensures.sees c.in-Absent.place c.in-Absent.extent c.in-Absent.is
      (c.loop-token.invariant.same.0 a))),
)

pub some_is_over_nothing-requires : goal.some_is_over_nothing-requires
some_is_over_nothing-requires g c = (length (g.L.Text.Content.bytes c.args.text.now), c.requires.setting)

pub returns-then-not-is_empty-clause-is : goal.returns-then-not-is_empty-clause-is
returns-then-not-is_empty-clause-is g c =
    let there = (token_by c.look_laws_hold.ensures c.args.table.now c.stands.ensures (g.L.Text.Content.bytes c.args.text.now) c.loop-token.place c.look_first.result c.look_first.ensures.sees c.in-Token.token c.in-Token.pad c.in-Token.size c.in-Token.extent c.in-Token.is) in
    let some = subst (λ (l : List Action). 0 < length l) c.actions-actions.ensures.list (has_actions c.actions-actions.result.now c.is_empty.result c.if-not-is_empty.true c.is_empty.ensures) in (
      (λ h. c.loop-token.invariant.same.1 (token_asks c.look_laws_hold.ensures c.args.table.now c.stands.ensures (g.L.Text.Content.bytes c.args.text.now) c.loop-token.place c.in-Token.token c.in-Token.pad c.in-Token.size there (c.some_is_over_nothing.ensures.0 h))),
      (λ a. c.some_is_over_nothing.ensures.1 (token_tells c.look_laws_hold.ensures c.args.table.now c.stands.ensures (g.L.Text.Content.bytes c.args.text.now) c.loop-token.place c.in-Token.token c.in-Token.pad c.in-Token.size there some (c.loop-token.invariant.same.0 a))),
    )

pub overflow_add-place : goal.overflow_add-place
overflow_add-place g c = let w = (token_by c.look_laws_hold.ensures c.args.table.now c.stands.ensures (g.L.Text.Content.bytes c.args.text.now) c.loop-token.place c.look_first.result c.look_first.ensures.sees c.in-Token.token c.in-Token.pad c.in-Token.size c.in-Token.extent c.in-Token.is).within in let s = c.requires.setting.short in
    let h : c.in-Token.pad + c.in-Token.size < 2 ^ 32 = omega (arith, w, s) in
    record { fits = h }

pub overflow_add-place-in-Token : goal.overflow_add-place-in-Token
overflow_add-place-in-Token g c = let w = (token_by c.look_laws_hold.ensures c.args.table.now c.stands.ensures (g.L.Text.Content.bytes c.args.text.now) c.loop-token.place c.look_first.result c.look_first.ensures.sees c.in-Token.token c.in-Token.pad c.in-Token.size c.in-Token.extent c.in-Token.is).within in let s = c.requires.setting.short in
    let h : c.loop-token.place + (c.in-Token.pad + c.in-Token.size) < 2 ^ 32 = omega (arith, w, s) in
    record { fits = h }

pub loop-token-smaller : goal.loop-token-smaller
loop-token-smaller g c =
    let there = (token_by c.look_laws_hold.ensures c.args.table.now c.stands.ensures (g.L.Text.Content.bytes c.args.text.now) c.loop-token.place c.look_first.result c.look_first.ensures.sees c.in-Token.token c.in-Token.pad c.in-Token.size c.in-Token.extent c.in-Token.is) in
    let w = there.within in
    let b = extra_bytes c.look_laws_hold.ensures c.args.table.now c.stands.ensures (g.L.Text.Content.bytes c.args.text.now) c.loop-token.place c.in-Token.token c.in-Token.pad c.in-Token.size there c.leaf_laws_hold.ensures (sym c.actions-actions.ensures.list ∙ has_no_actions c.actions-actions.result.now c.is_empty.result c.if-not-is_empty.false c.is_empty.ensures) in
    omega (arith, w, b)

pub loop-token-preserved : goal.loop-token-preserved
loop-token-preserved g c =
    let there = (token_by c.look_laws_hold.ensures c.args.table.now c.stands.ensures (g.L.Text.Content.bytes c.args.text.now) c.loop-token.place c.look_first.result c.look_first.ensures.sees c.in-Token.token c.in-Token.pad c.in-Token.size c.in-Token.extent c.in-Token.is) in
    let none = (sym c.actions-actions.ensures.list ∙ has_no_actions c.actions-actions.result.now c.is_empty.result c.if-not-is_empty.false c.is_empty.ensures) in
    record {
      made = c.look_first.ensures.made;
      within = there.within;
      same = (
        (λ a. passed_on c.look_laws_hold.ensures c.args.table.now c.stands.ensures (g.L.Text.Content.bytes c.args.text.now) c.loop-token.place c.in-Token.token c.in-Token.pad c.in-Token.size there c.leaf_laws_hold.ensures none (c.loop-token.invariant.same.0 a)),
        (λ a. c.loop-token.invariant.same.1 (passed_back c.look_laws_hold.ensures c.args.table.now c.stands.ensures (g.L.Text.Content.bytes c.args.text.now) c.loop-token.place c.in-Token.token c.in-Token.pad c.in-Token.size there c.leaf_laws_hold.ensures none a)),
      );
    }
