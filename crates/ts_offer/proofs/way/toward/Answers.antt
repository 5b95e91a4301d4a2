use Rattle.std.proofs.Common.{◌+◌, ap, refl, arith, ℕ}
use Rattle.std.proofs.lemmas.Option.{slice_get_within}
use Rattle.spec_trees.specs.Trees.{children_of}
use Rattle.ts_offer.specs.declared.way.Turn.{Turn}
use Rattle.ts_offer.proofs.PlaceLemmas.{spans_at, spans_next}
use Rattle.ts_offer.proofs.WayLemmas.{past_later, spans_before}
use Rattle.ts_offer.proofs.way.toward.Goals as goal

pub overflow_add-end : goal.overflow_add-end
overflow_add-end c =
    let next = spans_at _ c.args.turn.next c.child-child.result.now c.child-child.ensures in
    omega (arith, next, c.requires.within, c.span.ensures)

pub leapt-requires-clause-within : goal.leapt-requires-clause-within
leapt-requires-clause-within c =
    let next = spans_next _ c.args.turn.next c.child-child.result.now c.child-child.ensures in
    omega (arith, next, c.requires.within, c.span.ensures)

pub leapt-requires-clause-begun : goal.leapt-requires-clause-begun
leapt-requires-clause-begun c = λ at is.
    omega (arith, c.requires.begun at is, c.span.ensures, spans_before (children_of c.args.turn.node.now) c.args.turn.next c.child-child.result.now c.child-child.ensures)

pub leapt-requires-clause-next : goal.leapt-requires-clause-next
leapt-requires-clause-next c = omega (arith, slice_get_within (children_of c.args.turn.node.now) c.args.turn.next c.child-child.result.now c.child-child.ensures)

pub returns-then-end-place-2 : goal.returns-then-end-place-2
returns-then-end-place-2 c =
    let t : Turn = c.args.turn in
    let u : Turn = record { node = t.node; begins = t.begins; next = t.next + 1; place = t.place + c.span.result } in
    past_later t u c.leapt.result c.child-child.result.now c.args.place c.child-child.ensures
    (record { node = refl; begins = refl; next = refl; place = ap (λ (n : ℕ). t.place + n) c.span.ensures }) c.leapt.ensures
