use Rattle.std.proofs.Common.{refl, sym, arith, length, subst, take, List, ap}
use Rattle.ts_rules.specs.declared.size.Size.{Size}
use Rattle.ts_productions.specs.declared.weights.Weights.{Weights}
use Rattle.ts_productions.specs.Sizes.{SizesHold}
use Rattle.ts_productions.proofs.TotalLemmas.{sizes_next, place_within}
use Rattle.ts_productions.proofs.totals.inlined_sizes.Goals as goal

pub place_size-size-requires : goal.place_size-size-requires
place_size-size-requires c = place_within c.args.sources.now c.loop-place.place-index 0 c.requires c.loop-place-test.true

pub index_mut-requires : goal.index_mut-requires
index_mut-requires c =
    let a = place_within c.args.sources.now c.loop-place.place-index 0 c.requires c.loop-place-test.true in
    let b = c.loop-place.invariant.one_each in
    let d = c.as_slice.ensures.len in
    let e = ap (λ (zs : List Size). length zs) c.as_slice.ensures.value in
    omega (arith, a, b, d, e)

pub loop-place-preserved : goal.loop-place-preserved
loop-place-preserved c =
    let w : Weights = record { first = c.args.sources.now.first_inlined; sizes = c.as_slice.result } in
    let hold : SizesHold c.args.sources.now (take c.loop-place.place-index c.args.sources.now.order.now) w.sizes.now =
    subst (λ (zs : List Size). SizesHold c.args.sources.now (take c.loop-place.place-index c.args.sources.now.order.now) zs) (sym c.as_slice.ensures.value) c.loop-place.invariant in
    rw (← c.as_slice.ensures.value) (sizes_next c.args.sources.now w c.loop-place.place-index 0 c.place_size-size.result c.requires refl hold c.loop-place-test.true c.place_size-size.ensures)
