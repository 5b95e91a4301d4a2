use Rattle.std.proofs.Common.{◌≡◌, ◌-◌, ap, subst, arith}
use Rattle.spec_trees.specs.Trees.{all_spans}
use Rattle.spec_forced.specs.Sound.{EachHasState}
use Rattle.ts_gss.specs.Stacks.{stack_at}
use Rattle.ts_steps.proofs.LengthenLemmas.{lifted_spans, end_of}
use Rattle.ts_steps.proofs.lengthening.list_end.Goals as goal

pub spans-requires : goal.spans-requires
spans-requires c =
    let v = c.requires.live in
    let extras = c.in_ok-extras.field-0.extras.items in
    let sum = lifted_spans (stack_at c.args.graph.now c.args.head.top) (stack_at c.args.graph.now c.in_ok-extras.field-0.under) extras c.args.head.place c.in_ok-extras.ensures.extras v.3.stack.spans in
    let same : all_spans c.as_slice.result.now ≡ all_spans extras = ap all_spans c.as_slice.ensures.value in
    omega (arith, sum, same, v.3.stack.within, v.2)

pub overflow_sub-place : goal.overflow_sub-place
overflow_sub-place c =
    let v = c.requires.live in
    let extras = c.in_ok-extras.field-0.extras.items in
    let sum = lifted_spans (stack_at c.args.graph.now c.args.head.top) (stack_at c.args.graph.now c.in_ok-extras.field-0.under) extras c.args.head.place c.in_ok-extras.ensures.extras v.3.stack.spans in
    let same : all_spans c.as_slice.result.now ≡ all_spans extras = ap all_spans c.as_slice.ensures.value in
    omega (arith, sum, same, c.spans.ensures)

pub returns-then-have_states : goal.returns-then-have_states
returns-then-have_states c =
    let v = c.requires.live in
    let extras = c.in_ok-extras.field-0.extras.items in
    let sum = lifted_spans (stack_at c.args.graph.now c.args.head.top) (stack_at c.args.graph.now c.in_ok-extras.field-0.under) extras c.args.head.place c.in_ok-extras.ensures.extras v.3.stack.spans in
    let same : all_spans c.as_slice.result.now ≡ all_spans extras = ap all_spans c.as_slice.ensures.value in
    end_of c.args.graph.now c.args.head extras c.in_ok-extras.field-0.under (c.args.head.place - c.spans.result) c.list_on.result c.in_ok-extras.ensures.there c.in_ok-extras.ensures.extras
    (subst EachHasState c.as_slice-2.ensures.value (c.have_states.ensures.0 c.if-have_states.true)) (omega (arith, sum, same, c.spans.ensures)) c.list_on.ensures
