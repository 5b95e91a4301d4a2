use Rattle.std.proofs.Common.{◌≡◌, ◌∙◌, ap, ℕ, ◌+◌, ◌<◌, ◌^◌, ◌∷◌, Some, arith}
use Rattle.spec_trees.specs.declared.tree.Tree.{Tree}
use Rattle.spec_trees.specs.Made.{leaf_of, as_extra}
use Rattle.ts_gss.specs.Stacks.{stack_at, layer_with}
use Rattle.ts_steps.proofs.StackLemmas.{pushes_grow, pushed_stack}
use Rattle.ts_steps.proofs.HeadLemmas.{pass_own, pass_config, pass_layers, pass_stands}
use Rattle.ts_steps.proofs.shifting.pass.Goals as goal

pub leaf-leaf-requires-clause-past : goal.leaf-leaf-requires-clause-past
leaf-leaf-requires-clause-past c = c.requires.room.2.past

pub leaf-leaf-requires-clause-short : goal.leaf-leaf-requires-clause-short
leaf-leaf-requires-clause-short c =
    let a = c.requires.room.2.past in
    let b = c.requires.room.2.reach in
    let e = c.requires.room.1 in
    omega arith

pub overflow_add-result : goal.overflow_add-result
overflow_add-result c =
    let a = c.requires.room.2.past in
    let b = c.requires.room.2.reach in
    let e = c.requires.room.1 in
    let h : c.args.found.pad + c.args.found.size < 2 ^ 32 = omega arith in
    record { fits = h }

pub returns-clause-grows : goal.returns-clause-grows
returns-clause-grows c =
    pushes_grow c.args.graph.now c.push.new.self c.args.head.top c.in_ok-top.top c.as_extra-node.result c.state-state.result (record { top_is = c.in_ok-top.ensures.head; new_is = c.in_ok-top.ensures.pushed })

pub returns-clause-put : goal.returns-clause-put
returns-clause-put c =
    let f = c.args.found in
    let is : c.as_extra-node.result ≡ as_extra (leaf_of f.token.0 f.pad f.size f.extent (Some c.state-state.result)) = c.as_extra-node.ensures ∙ ap as_extra c.leaf-leaf.ensures.node in
    pushed_stack c.args.graph.now c.push.new.self c.args.head.top c.in_ok-top.top c.as_extra-node.result c.state-state.result (record { top_is = c.in_ok-top.ensures.head; new_is = c.in_ok-top.ensures.pushed })
    ∙ ap (λ (x : Tree). layer_with x c.state-state.result ∷ stack_at c.args.graph.now c.args.head.top) is
    ∙ ap (λ (n : ℕ). layer_with (as_extra (leaf_of f.token.0 f.pad f.size f.extent (Some n))) n ∷ stack_at c.args.graph.now c.args.head.top) c.state-state.ensures

pub returns-clause-config : goal.returns-clause-config
returns-clause-config c =
    pass_config c.laws_hold.ensures c.args.graph.now c.push.new.self c.args.head c.args.found (Some c.state-state.result) c.as_extra-node.result c.state-state.result c.in_ok-top.top
    (record { top_is = c.in_ok-top.ensures.head; new_is = c.in_ok-top.ensures.pushed }) (c.as_extra-node.ensures ∙ ap as_extra c.leaf-leaf.ensures.node)

pub returns-clause-layers : goal.returns-clause-layers
returns-clause-layers c =
    pass_layers c.laws_hold.ensures c.args.graph.now c.push.new.self c.args.head c.args.found (Some c.state-state.result) c.as_extra-node.result c.state-state.result c.in_ok-top.top
    (record { top_is = c.in_ok-top.ensures.head; new_is = c.in_ok-top.ensures.pushed }) (c.as_extra-node.ensures ∙ ap as_extra c.leaf-leaf.ensures.node)

pub returns-clause-live : goal.returns-clause-live
returns-clause-live c t size live ahead low =
    pass_own t size c.args.graph.now c.push.new.self c.args.head c.args.found (Some c.state-state.result) c.as_extra-node.result c.state-state.result c.in_ok-top.top
    (record { top_is = c.in_ok-top.ensures.head; new_is = c.in_ok-top.ensures.pushed }) (c.as_extra-node.ensures ∙ ap as_extra c.leaf-leaf.ensures.node) c.nodes.ensures.node live ahead low c.state-state.ensures

pub returns-clause-stand : goal.returns-clause-stand
returns-clause-stand c t states text table are live move stand =
    pass_stands c.sound_laws_hold.ensures t states text c.args.graph.now c.push.new.self c.args.head c.args.found c.state-state.result c.state-state.result c.in_ok-top.top c.as_extra-node.result
    (record { top_is = c.in_ok-top.ensures.head; new_is = c.in_ok-top.ensures.pushed }) (c.as_extra-node.ensures ∙ ap as_extra c.leaf-leaf.ensures.node) c.state-state.ensures table are live move stand

pub returns-clause-one : goal.returns-clause-one
returns-clause-one c one = c.in_ok-top.ensures.one one
