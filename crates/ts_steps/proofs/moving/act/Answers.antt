use Rattle.std.proofs.Common.{◌∙◌, ap, refl, [], ◌∷◌}
use Rattle.ts_core.specs.declared.action.Action.{Action}
use Rattle.ts_steps.proofs.GoLemmas.{shift_room, reduce_stays, accept_stays, goes_shift, goes_reduced, goes_too_deep, goes_accept}
use Rattle.ts_steps.proofs.moving.act.Goals as goal

pub shift-requires-clause-room : goal.shift-requires-clause-room
shift-requires-clause-room c =
    shift_room c.laws_hold.ensures c.args.table.now c.args.setting.now.size c.args.graph.now c.args.head c.args.found c.stands.ensures c.requires.live c.in-Shift.state c.requires.sees.0 c.requires.setting.short c.requires.sees.1 (c.requires.only ∙ ap (λ (a : Action). a ∷ []) c.in-Shift.is) c.requires.sees.2

pub reduce-requires-clause-stays : goal.reduce-requires-clause-stays
reduce-requires-clause-stays c =
    reduce_stays c.laws_hold.ensures c.args.table.now c.args.setting.now.size c.args.graph.now c.args.head c.args.found c.stands.ensures c.requires.live c.in-Reduce.number (c.requires.only ∙ ap (λ (a : Action). a ∷ []) c.in-Reduce.is)

pub accept-requires-clause-stays : goal.accept-requires-clause-stays
accept-requires-clause-stays c =
    accept_stays c.laws_hold.ensures c.args.table.now c.args.setting.now.size c.args.graph.now c.args.head c.args.found c.stands.ensures c.requires.live (c.requires.only ∙ ap (λ (a : Action). a ∷ []) c.in-Accept.is)

pub returns-in_ok-next-in-Shift : goal.returns-in_ok-next-in-Shift
returns-in_ok-next-in-Shift c text long ahead =
    goes_shift c.laws_hold.ensures c.args.table.now c.args.setting.now.size c.args.graph.now c.args.head c.args.found c.stands.ensures c.requires.live c.only_laws_hold.ensures c.shift.new.graph c.in_ok-next-in-Shift.next text long ahead c.in-Shift.state
    (c.requires.only ∙ ap (λ (a : Action). a ∷ []) c.in-Shift.is) c.in_ok-next-in-Shift.ensures.config c.in_ok-next-in-Shift.ensures.layers c.in_ok-next-in-Shift.ensures.live c.in_ok-next-in-Shift.ensures.stand c.in_ok-next-in-Shift.ensures.one

pub returns-in_ok-root-in-Accept : goal.returns-in_ok-root-in-Accept
returns-in_ok-root-in-Accept c text long ahead =
    goes_accept c.laws_hold.ensures c.args.table.now c.args.setting.now.size c.args.graph.now c.args.head c.args.found c.stands.ensures c.requires.live c.only_laws_hold.ensures c.args.graph.now c.args.head text long ahead c.in_ok-root-in-Accept.root
    (c.requires.only ∙ ap (λ (a : Action). a ∷ []) c.in-Accept.is) c.in_ok-root-in-Accept.ensures.root c.in_ok-root-in-Accept.ensures.form c.in_ok-root-in-Accept.ensures.own c.in_ok-root-in-Accept.ensures.state c.in_ok-root-in-Accept.ensures.sound

pub returns-in-Some : goal.returns-in-Some
returns-in-Some c text long ahead =
    goes_reduced c.laws_hold.ensures c.args.table.now c.args.setting.now.size c.args.graph.now c.args.head c.args.found c.stands.ensures c.requires.live c.only_laws_hold.ensures c.reduce.new.graph c.in-Some.next text long ahead c.sound_laws_hold.ensures c.same_token_again.ensures c.in_ok-next-in-Reduce.field-0 c.in-Reduce.number c.in-Some.is
    (c.requires.only ∙ ap (λ (a : Action). a ∷ []) c.in-Reduce.is) c.in_ok-next-in-Reduce.ensures.done c.in_ok-next-in-Reduce.ensures.live c.in_ok-next-in-Reduce.ensures.stand (c.in_ok-next-in-Reduce.ensures.one refl)

pub returns-in-None : goal.returns-in-None
returns-in-None c text long ahead =
    goes_too_deep c.laws_hold.ensures c.args.table.now c.args.setting.now.size c.args.graph.now c.args.head c.args.found c.stands.ensures c.requires.live c.only_laws_hold.ensures c.reduce.new.graph c.args.head text long ahead c.in_ok-next-in-Reduce.field-0 c.in-Reduce.number c.in-None.is
    (c.requires.only ∙ ap (λ (a : Action). a ∷ []) c.in-Reduce.is) c.in_ok-next-in-Reduce.ensures.done
