use Rattle.std.proofs.Common.{◌≡◌, ◌∙◌, sym, ap, subst, ℕ, ◌+◌, ◌++◌, List, map, reverse, arith}
use Rattle.spec_trees.specs.Trees.{all_spans, span_of}
use Rattle.spec_trees.specs.Made.{filling}
use Rattle.ts_table.specs.Tables.{IsStateOf}
use Rattle.ts_gss.specs.declared.layer.Layer.{Layer}
use Rattle.ts_gss.specs.Stacks.{stack_at, trees_on}
use Rattle.ts_steps.specs.LiveHeads.{packed_own, packed_layers, IsGoodStack}
use Rattle.ts_steps.proofs.StackLemmas.{packed_grow, packed_there, packed_stack, grows_more, state_top}
use Rattle.ts_steps.proofs.PutLemmas.{put_base}
use Rattle.ts_steps.proofs.reducing.put.Goals as goal

pub next_state-state-requires : goal.next_state-state-requires
next_state-state-requires c =
    let s = c.requires.stands in (
      filling (trees_on (stack_at c.args.graph.now c.args.below)),
      subst (λ (n : ℕ). IsStateOf c.args.table.now (filling (trees_on (stack_at c.args.graph.now c.args.below))) n) (sym c.state.ensures) (state_top c.args.table.now (stack_at c.args.graph.now c.args.below) s.2.states),
      s.3,
    )

pub lay-requires : goal.lay-requires
lay-requires c =
    packed_there c.args.graph.now c.push_packed.new.self c.args.below c.in_ok-base.base c.args.node c.next_state-state.result c.args.depth (record { top_is = c.in_ok-base.ensures.head; new_is = c.in_ok-base.ensures.pushed })

pub returns-clause-grows : goal.returns-clause-grows
returns-clause-grows c =
    grows_more c.args.graph.now c.push_packed.new.self c.lay.new.graph
    (packed_grow c.args.graph.now c.push_packed.new.self c.args.below c.in_ok-base.base c.args.node c.next_state-state.result c.args.depth (record { top_is = c.in_ok-base.ensures.head; new_is = c.in_ok-base.ensures.pushed }))
    c.in_ok-top.ensures.grows

pub returns-clause-trees : goal.returns-clause-trees
returns-clause-trees c =
    c.in_ok-top.ensures.trees
    ∙ ap (λ (s : List Layer). reverse c.args.extras.now ++ trees_on s)
    (packed_stack c.args.graph.now c.push_packed.new.self c.args.below c.in_ok-base.base c.args.node c.next_state-state.result c.args.depth (record { top_is = c.in_ok-base.ensures.head; new_is = c.in_ok-base.ensures.pushed }))

pub returns-clause-layers : goal.returns-clause-layers
returns-clause-layers c =
    c.in_ok-top.ensures.layers
    ∙ ap (λ (s : List Layer). map packed_own (reverse c.args.extras.now) ++ packed_layers s)
    (packed_stack c.args.graph.now c.push_packed.new.self c.args.below c.in_ok-base.base c.args.node c.next_state-state.result c.args.depth (record { top_is = c.in_ok-base.ensures.head; new_is = c.in_ok-base.ensures.pushed }))

pub returns-clause-good : goal.returns-clause-good
returns-clause-good c size place base can =
    let st : IsStateOf c.args.table.now (filling (trees_on (stack_at c.args.graph.now c.args.below))) c.state.result =
    subst (λ (n : ℕ). IsStateOf c.args.table.now (filling (trees_on (stack_at c.args.graph.now c.args.below))) n) (sym c.state.ensures) (state_top c.args.table.now (stack_at c.args.graph.now c.args.below) base.states) in
    let lay = put_base c.args.table.now size place c.args.graph.now c.push_packed.new.self c.args.below c.in_ok-base.base c.args.left.0 c.args.node c.args.depth c.args.extras.now c.next_state-state.result
    (record { top_is = c.in_ok-base.ensures.head; new_is = c.in_ok-base.ensures.pushed }) base can (c.next_state-state.ensures (filling (trees_on (stack_at c.args.graph.now c.args.below))) st) in
    let sum : place + span_of c.args.node + all_spans c.args.extras.now ≡ place + (span_of c.args.node + all_spans c.args.extras.now) = omega arith in
    subst (λ (n : ℕ). IsGoodStack c.args.table.now size (stack_at c.lay.new.graph c.in_ok-top.top) n) sum (c.in_ok-top.ensures.good c.args.table.now size (place + span_of c.args.node) lay)

pub returns-clause-one : goal.returns-clause-one
returns-clause-one c one = c.in_ok-top.ensures.one (c.in_ok-base.ensures.one one)
