use Rattle.std.proofs.Common.{◌≡◌, ◌∙◌, sym, refl, subst, ℕ, ◌<◌, List, [], length}
use Rattle.ts_core.specs.declared.action.Action.{Action}
use Rattle.ts_table.specs.Tables.{actions_of}
use Rattle.ts_steps.proofs.GoLemmas.{pass_room, goes_pass, goes_fork}
use Rattle.ts_steps.proofs.moving.follow.Goals as goal

pub pass-requires-clause-room : goal.pass-requires-clause-room
pass-requires-clause-room c =
    let none = subst (λ (n : ℕ). actions_of c.args.table.now n c.args.found.token.0 ≡ []) c.state.ensures (sym c.actions.ensures.list ∙ c.in-Nothing.ensures) in
    pass_room c.laws_hold.ensures c.args.table.now c.args.setting.now.size c.args.graph.now c.args.head c.args.found c.stands.ensures c.requires.live c.requires.sees.0 c.requires.setting.short c.requires.sees.1 none c.requires.sees.2

pub returns-in_ok-next-in-Nothing : goal.returns-in_ok-next-in-Nothing
returns-in_ok-next-in-Nothing c text long ahead =
    let none = subst (λ (n : ℕ). actions_of c.args.table.now n c.args.found.token.0 ≡ []) c.state.ensures (sym c.actions.ensures.list ∙ c.in-Nothing.ensures) in
    goes_pass c.laws_hold.ensures c.args.table.now c.args.setting.now.size c.args.graph.now c.args.head c.args.found c.stands.ensures c.requires.live c.only_laws_hold.ensures c.pass.new.graph c.in_ok-next-in-Nothing.next text long ahead none
    c.in_ok-next-in-Nothing.ensures.config c.in_ok-next-in-Nothing.ensures.layers c.in_ok-next-in-Nothing.ensures.live c.in_ok-next-in-Nothing.ensures.stand c.in_ok-next-in-Nothing.ensures.one

pub returns-in-Several : goal.returns-in-Several
returns-in-Several c text long ahead =
    let many = subst (λ (n : ℕ). 1 < length (actions_of c.args.table.now n c.args.found.token.0)) c.state.ensures (subst (λ (l : List Action). 1 < length l) c.actions.ensures.list c.in-Several.ensures) in
    goes_fork c.laws_hold.ensures c.args.table.now c.args.setting.now.size c.args.graph.now c.args.head c.args.found c.stands.ensures c.requires.live c.only_laws_hold.ensures c.args.graph.now c.args.head text long ahead refl many
