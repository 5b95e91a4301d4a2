use Rattle.std.proofs.Common.{◌↔◌}
use Rattle.std.specs.List.{Contains}
use Rattle.ts_core.specs.declared.action.Action.{Action}
use Rattle.ts_table.specs.Tables.{IsStateOf, ActsBy}
use Rattle.ts_steps.specs.LiveHeads.{read_on}
use Rattle.ts_glr.proofs.FollowLemmas.{none_there, some_there, head_state, follow_room, follow_passes, follow_acts, follow_deep}
use Rattle.ts_glr.proofs.nothing.follow.Goals as goal

pub pass-requires-clause-room : goal.pass-requires-clause-room
pass-requires-clause-room c =
    let st : IsStateOf c.args.table.now (read_on c.args.readings.now.graph c.args.head) c.state.result = head_state c.args.table.now c.args.setting.now.size c.args.readings.now.graph c.args.head c.state.result c.state.ensures c.requires.live.live in
    let exact : (a : Action) → Contains c.actions-actions.result.now a ↔ ActsBy c.args.table.now (read_on c.args.readings.now.graph c.args.head) c.args.found.token.0 a = λ a. c.actions-actions.ensures.exact (read_on c.args.readings.now.graph c.args.head) a st in
    let seen = c.requires.sees in
    follow_room c.laws_hold.ensures c.args.table.now c.stands.ensures c.args.setting.now.size c.args.readings.now.graph c.args.head c.args.found c.state.result st c.actions-actions.result.now exact seen.0 seen.2
    (none_there c.actions-actions.result.now c.is_empty.result c.if-is_empty.true c.is_empty.ensures) seen.1 c.requires.setting.short

pub returns-then-is_empty-clause-done : goal.returns-then-is_empty-clause-done
returns-then-is_empty-clause-done c shallow text stuck long ahead =
    let st : IsStateOf c.args.table.now (read_on c.args.readings.now.graph c.args.head) c.state.result = head_state c.args.table.now c.args.setting.now.size c.args.readings.now.graph c.args.head c.state.result c.state.ensures c.requires.live.live in
    let exact : (a : Action) → Contains c.actions-actions.result.now a ↔ ActsBy c.args.table.now (read_on c.args.readings.now.graph c.args.head) c.args.found.token.0 a = λ a. c.actions-actions.ensures.exact (read_on c.args.readings.now.graph c.args.head) a st in
    follow_passes c.laws_hold.ensures c.args.table.now c.stands.ensures c.args.setting.now.size c.args.readings.now.graph c.args.head c.args.found c.state.result st c.actions-actions.result.now exact text ahead
    (none_there c.actions-actions.result.now c.is_empty.result c.if-is_empty.true c.is_empty.ensures) long c.pass.new.graph c.in_ok-next.next c.args.readings.now.live.items c.push.new.self.items c.args.readings.now.best stuck c.in_ok-push.ensures.items c.requires.live
    c.in_ok-next.ensures.config c.in_ok-next.ensures.layers c.in_ok-next.ensures.live c.in_ok-next.ensures.stand

pub act_all-requires-clause-act : goal.act_all-requires-clause-act
act_all-requires-clause-act c a w =
    let st : IsStateOf c.args.table.now (read_on c.args.readings.now.graph c.args.head) c.state.result = head_state c.args.table.now c.args.setting.now.size c.args.readings.now.graph c.args.head c.state.result c.state.ensures c.requires.live.live in
    let exact : (a : Action) → Contains c.actions-actions.result.now a ↔ ActsBy c.args.table.now (read_on c.args.readings.now.graph c.args.head) c.args.found.token.0 a = λ a. c.actions-actions.ensures.exact (read_on c.args.readings.now.graph c.args.head) a st in
    (exact a).0 w

pub returns-clause-deep : goal.returns-clause-deep
returns-clause-deep c is text ahead =
    let st : IsStateOf c.args.table.now (read_on c.args.readings.now.graph c.args.head) c.state.result = head_state c.args.table.now c.args.setting.now.size c.args.readings.now.graph c.args.head c.state.result c.state.ensures c.requires.live.live in
    let exact : (a : Action) → Contains c.actions-actions.result.now a ↔ ActsBy c.args.table.now (read_on c.args.readings.now.graph c.args.head) c.args.found.token.0 a = λ a. c.actions-actions.ensures.exact (read_on c.args.readings.now.graph c.args.head) a st in
    let d = c.in_ok-deep.ensures.deep is in
    follow_deep c.laws_hold.ensures c.args.table.now c.stands.ensures c.args.setting.now.size c.args.readings.now.graph c.args.head c.args.found c.state.result st c.actions-actions.result.now exact text ahead d.0 d.1 d.2

pub returns-clause-done : goal.returns-clause-done
returns-clause-done c shallow text stuck long ahead =
    let st : IsStateOf c.args.table.now (read_on c.args.readings.now.graph c.args.head) c.state.result = head_state c.args.table.now c.args.setting.now.size c.args.readings.now.graph c.args.head c.state.result c.state.ensures c.requires.live.live in
    let exact : (a : Action) → Contains c.actions-actions.result.now a ↔ ActsBy c.args.table.now (read_on c.args.readings.now.graph c.args.head) c.args.found.token.0 a = λ a. c.actions-actions.ensures.exact (read_on c.args.readings.now.graph c.args.head) a st in
    follow_acts c.laws_hold.ensures c.args.table.now c.stands.ensures c.args.setting.now.size c.args.readings.now.graph c.args.head c.args.found c.state.result st c.actions-actions.result.now exact text ahead c.act_all.new.readings.graph c.args.readings.now.live.items c.act_all.new.readings.live.items c.args.readings.now.best c.act_all.new.readings.best stuck
    (some_there c.actions-actions.result.now c.is_empty.result c.if-is_empty.false c.is_empty.ensures) c.actions-actions.ensures.few (c.in_ok-deep.ensures.done shallow text long ahead)
