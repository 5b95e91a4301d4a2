use Rattle.std.proofs.Common.{refl, sym, ap, subst, arith, List, length, take}
use Rattle.ts_productions.specs.declared.spread.Inlined.{Inlined}
use Rattle.ts_productions.specs.Expansions.{Expansions}
use Rattle.ts_productions.specs.Sizes.{FullHold}
use Rattle.ts_productions.proofs.TotalLemmas.{place_within}
use Rattle.ts_productions.proofs.FullLemmas.{full_next}
use Rattle.ts_productions.proofs.inlined.inlined_expansions.Goals as goal

pub place_expansions-requires-clause-tree : goal.place_expansions-requires-clause-tree
place_expansions-requires-clause-tree c = place_within c.args.sources.now c.loop-place.place-index 0 c.requires.ordered c.loop-place-test.true

pub place_expansions-requires-clause-size : goal.place_expansions-requires-clause-size
place_expansions-requires-clause-size c =
    let a = place_within c.args.sources.now c.loop-place.place-index 0 c.requires.ordered c.loop-place-test.true in
    let b = c.requires.sizes.one_each in
    omega (arith, a, b)

pub index_mut-requires : goal.index_mut-requires
index_mut-requires c =
    let a = place_within c.args.sources.now c.loop-place.place-index 0 c.requires.ordered c.loop-place-test.true in
    let b = c.loop-place.invariant.one_each in
    let d = c.as_slice.ensures.len in
    let e = ap (λ (zs : List Expansions). length zs) c.as_slice.ensures.value in
    omega (arith, a, b, d, e)

pub loop-place-preserved : goal.loop-place-preserved
loop-place-preserved c =
    let t : Inlined = record { first = c.args.sources.now.first_inlined; sizes = c.args.sizes; full = c.as_slice.result } in
    let hold : FullHold c.args.sources.now (take c.loop-place.place-index c.args.sources.now.order.now) t.full.now =
    subst (λ (zs : List Expansions). FullHold c.args.sources.now (take c.loop-place.place-index c.args.sources.now.order.now) zs) (sym c.as_slice.ensures.value) c.loop-place.invariant in
    rw (← c.as_slice.ensures.value) (full_next c.args.sources.now t c.loop-place.place-index 0 c.in_ok-found.found c.requires.ordered refl c.requires.sizes hold c.loop-place-test.true c.in_ok-found.ensures)
