use Rattle.std.proofs.Common.{ap, get_or, length, List, arith}
use Rattle.ts_reductions.specs.declared.top.Top.{Top}
use Rattle.ts_places.specs.declared.sights.Span.{Span}
use Rattle.ts_places.proofs.SmallLemmas.{item_at}
use Rattle.ts_places.proofs.AllLemmas.{no_top, no_span, none_done, can_open, one_done, all_done}
use Rattle.ts_places.proofs.shifting.shift_all.Goals as goal

pub loop-place-init : goal.loop-place-init
loop-place-init c = λ text base look all. none_done c.leaf_laws_hold.ensures c.args.table.now c.stands.ensures text base c.args.graph.now look c.args.sights.now all

pub open-requires : goal.open-requires
open-requires c =
    let r = c.requires in
    let low = c.loop-place-test.true in
    let n = r.3.sights.count in
    let a = ap (λ (l : List Top). length l) c.as_slice-tops.ensures.value in
    let b = ap (λ (l : List Span). length l) c.as_slice-spans.ensures.value in (
      r.0,
      r.1,
      r.2,
      can_open c.leaf_laws_hold.ensures c.args.table.now c.stands.ensures r.0 r.1 c.args.graph.now r.2 c.args.sights.now r.3 c.loop-place.graph c.loop-place.place (c.loop-place.invariant r.0 r.1 r.2 r.3)
          (get_or c.as_slice-tops.result.now c.loop-place.place no_top) (item_at c.args.sights.now.tops.items c.as_slice-tops.result.now c.as_slice-tops.ensures.value c.loop-place.place no_top low)
          (get_or c.as_slice-spans.result.now c.loop-place.place no_span) (item_at c.args.sights.now.spans.items c.as_slice-spans.result.now c.as_slice-spans.ensures.value c.loop-place.place no_span (omega (arith, low, n, a, b))),
    )

pub loop-place-preserved : goal.loop-place-preserved
loop-place-preserved c = λ text base look all.
    let low = c.loop-place-test.true in
    let n = all.sights.count in
    let a = ap (λ (l : List Top). length l) c.as_slice-tops.ensures.value in
    let b = ap (λ (l : List Span). length l) c.as_slice-spans.ensures.value in
    let is = item_at c.args.sights.now.tops.items c.as_slice-tops.result.now c.as_slice-tops.ensures.value c.loop-place.place no_top low in
    one_done c.leaf_laws_hold.ensures c.args.table.now c.stands.ensures text base c.args.graph.now look c.args.sights.now all c.loop-place.graph c.loop-place.place (c.loop-place.invariant text base look all)
    (get_or c.as_slice-tops.result.now c.loop-place.place no_top) is c.open.new.graph
    (c.in_ok-open.ensures text base look
    (can_open c.leaf_laws_hold.ensures c.args.table.now c.stands.ensures text base c.args.graph.now look c.args.sights.now all c.loop-place.graph c.loop-place.place (c.loop-place.invariant text base look all)
    (get_or c.as_slice-tops.result.now c.loop-place.place no_top) is
    (get_or c.as_slice-spans.result.now c.loop-place.place no_span) (item_at c.args.sights.now.spans.items c.as_slice-spans.result.now c.as_slice-spans.ensures.value c.loop-place.place no_span (omega (arith, low, n, a, b)))))

pub returns : goal.returns
returns c = λ text base look all.
    all_done c.leaf_laws_hold.ensures c.args.table.now c.stands.ensures text base c.args.graph.now look c.args.sights.now all c.loop-place.graph c.loop-place.place
    (let h = c.loop-place-test.false in let a = ap (λ (l : List Top). length l) c.as_slice-tops.ensures.value in omega (arith, h, a)) (c.loop-place.invariant text base look all)
