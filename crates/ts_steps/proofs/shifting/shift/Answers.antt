use Rattle.std.proofs.Common.{◌∙◌, ap, refl, ℕ, ◌+◌, ◌<◌, ◌^◌, ◌∷◌, Option, arith}
use Rattle.spec_trees.specs.declared.tree.Tree.{Tree}
use Rattle.spec_trees.specs.Made.{leaf_of}
use Rattle.ts_gss.specs.Stacks.{stack_at, state_on, layer_with}
use Rattle.ts_steps.proofs.StackLemmas.{pushes_grow, pushed_stack}
use Rattle.ts_steps.proofs.HeadLemmas.{shift_own, shift_config, shift_layers, shift_stands}
use Rattle.ts_steps.proofs.shifting.shift.Goals as goal

pub leaf-node-requires-clause-past : goal.leaf-node-requires-clause-past
leaf-node-requires-clause-past c = c.requires.room.2.past

pub leaf-node-requires-clause-short : goal.leaf-node-requires-clause-short
leaf-node-requires-clause-short c =
    let a = c.requires.room.2.past in
    let b = c.requires.room.2.reach in
    let e = c.requires.room.1 in
    omega arith

pub overflow_add-result : goal.overflow_add-result
overflow_add-result c =
    let a = c.requires.room.2.past in
    let b = c.requires.room.2.reach in
    let e = c.requires.room.1 in
    let h : c.args.ahead.found.pad + c.args.ahead.found.size < 2 ^ 32 = omega arith in
    record { fits = h }

pub returns-clause-grows : goal.returns-clause-grows
returns-clause-grows c =
    pushes_grow c.args.graph.now c.push.new.self c.args.head.top c.in_ok-top.top c.leaf-node.result c.args.state (record { top_is = c.in_ok-top.ensures.head; new_is = c.in_ok-top.ensures.pushed })

pub returns-clause-put : goal.returns-clause-put
returns-clause-put c =
    let f = c.args.ahead.found in
    pushed_stack c.args.graph.now c.push.new.self c.args.head.top c.in_ok-top.top c.leaf-node.result c.args.state (record { top_is = c.in_ok-top.ensures.head; new_is = c.in_ok-top.ensures.pushed })
    ∙ ap (λ (x : Tree). layer_with x c.args.state ∷ stack_at c.args.graph.now c.args.head.top) (c.leaf-node.ensures.node ∙ ap (λ (o : Option ℕ). leaf_of f.token.0 f.pad f.size f.extent o) c.state_below-below.ensures)

pub returns-clause-config : goal.returns-clause-config
returns-clause-config c =
    shift_config c.laws_hold.ensures c.args.graph.now c.push.new.self c.args.head c.args.ahead.found c.state_below-below.result c.leaf-node.result c.args.state c.in_ok-top.top (record { top_is = c.in_ok-top.ensures.head; new_is = c.in_ok-top.ensures.pushed })
    c.leaf-node.ensures.node

pub returns-clause-layers : goal.returns-clause-layers
returns-clause-layers c =
    shift_layers c.laws_hold.ensures c.args.graph.now c.push.new.self c.args.head c.args.ahead.found c.state_below-below.result c.leaf-node.result c.args.state c.in_ok-top.top (record { top_is = c.in_ok-top.ensures.head; new_is = c.in_ok-top.ensures.pushed })
    c.leaf-node.ensures.node

pub returns-clause-live : goal.returns-clause-live
returns-clause-live c t size live ahead low st =
    shift_own t size c.args.graph.now c.push.new.self c.args.head c.args.ahead.found c.state_below-below.result c.leaf-node.result c.args.state c.in_ok-top.top (record { top_is = c.in_ok-top.ensures.head; new_is = c.in_ok-top.ensures.pushed })
    c.leaf-node.ensures.node c.nodes.ensures.node live ahead low st

pub returns-clause-stand : goal.returns-clause-stand
returns-clause-stand c t states text table are live move stand =
    let f = c.args.ahead.found in
    shift_stands c.sound_laws_hold.ensures t states text c.args.graph.now c.push.new.self c.args.head c.args.ahead (state_on (stack_at c.args.graph.now c.args.head.top)) c.args.state c.in_ok-top.top c.leaf-node.result
    (record { top_is = c.in_ok-top.ensures.head; new_is = c.in_ok-top.ensures.pushed }) (c.leaf-node.ensures.node ∙ ap (λ (o : Option ℕ). leaf_of f.token.0 f.pad f.size f.extent o) c.state_below-below.ensures) refl table are live move stand

pub returns-clause-one : goal.returns-clause-one
returns-clause-one c one = c.in_ok-top.ensures.one one
