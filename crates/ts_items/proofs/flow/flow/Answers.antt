use Rattle.std.proofs.Common.{◌≡◌, ◌∙◌, sym, ap, subst, ℕ, length, List, slice_get, Some, arith}
use Rattle.std.specs.List.{Contains}
use Rattle.ts_bits.specs.declared.set.BitSet.{BitSet}
use Rattle.ts_items.specs.declared.flow.Edge.{Edge}
use Rattle.ts_items.proofs.ListLemmas.{read_at, there}
use Rattle.ts_items.proofs.FlowLemmas.{flow_begins, flow_step, flow_ends, wide_same, edge_there}
use Rattle.ts_items.proofs.flow.flow.Goals as goal

pub loop-next-init : goal.loop-next-init
loop-next-init c = flow_begins c.args.edges.now c.args.gives.now c.args.sets.now c.args.queue.now.items c.requires.queue

pub bounds-sets-symbol : goal.bounds-sets-symbol
bounds-sets-symbol c =
    let q = c.loop-next.queue.items in
    let y = c.from-symbol.result in
    let here : slice_get q c.loop-next.next ≡ Some y = read_at q c.loop-next.next c.index.result.now (omega (arith, c.loop-next-test.true, c.len.ensures)) c.index.ensures ∙ ap Some (sym c.from-symbol.ensures) in
    let lt = c.loop-next.invariant.inside y (there q c.loop-next.next y here) in
    omega (arith, lt, c.loop-next.invariant.count)

pub bounds-edges-symbol : goal.bounds-edges-symbol
bounds-edges-symbol c =
    let q = c.loop-next.queue.items in
    let y = c.from-symbol.result in
    let here : slice_get q c.loop-next.next ≡ Some y = read_at q c.loop-next.next c.index.result.now (omega (arith, c.loop-next-test.true, c.len.ensures)) c.index.ensures ∙ ap Some (sym c.from-symbol.ensures) in
    let lt = c.loop-next.invariant.inside y (there q c.loop-next.next y here) in
    omega (arith, lt, c.requires.net.rows)

pub visit_some-requires-clause-edges : goal.visit_some-requires-clause-edges
visit_some-requires-clause-edges c e h =
    let q = c.loop-next.queue.items in
    let y = c.from-symbol.result in
    let here : slice_get q c.loop-next.next ≡ Some y = read_at q c.loop-next.next c.index.result.now (omega (arith, c.loop-next-test.true, c.len.ensures)) c.index.ensures ∙ ap Some (sym c.from-symbol.ensures) in
    let lt = c.loop-next.invariant.inside y (there q c.loop-next.next y here) in
    edge_there c.args.gives.now (length c.args.sets.now) (length c.loop-next.sets) e c.loop-next.invariant.count (c.requires.net.each y e (record {
      row = c.index-edges-symbol.result;
      at = read_at c.args.edges.now y c.index-edges-symbol.result (omega (arith, lt, c.requires.net.rows)) c.index-edges-symbol.is;
      has = subst (λ (l : List Edge). Contains l e) c.as_slice.ensures.value h;
    }))

pub visit_some-requires-clause-narrow : goal.visit_some-requires-clause-narrow
visit_some-requires-clause-narrow c =
    let q = c.loop-next.queue.items in
    let y = c.from-symbol.result in
    let here : slice_get q c.loop-next.next ≡ Some y = read_at q c.loop-next.next c.index.result.now (omega (arith, c.loop-next-test.true, c.len.ensures)) c.index.ensures ∙ ap Some (sym c.from-symbol.ensures) in
    let lt = c.loop-next.invariant.inside y (there q c.loop-next.next y here) in
    let w = c.requires.wide in
    let s = c.index-sets-symbol.result in
    let is = read_at c.loop-next.sets y s (omega (arith, lt, c.loop-next.invariant.count)) c.index-sets-symbol.is in
    let size : length c.in_ok-from.from.words.items ≡ w.0 = ap (λ (l : List ℕ). length l) (c.in_ok-from.ensures ∙ ap (λ (b : BitSet). b.words.items) (sym c.index-sets-symbol.is)) ∙ (c.loop-next.invariant.wide w.0 w.2 y s is).words in
    omega (arith, size, w.1)

pub visit_some-requires-clause-wide : goal.visit_some-requires-clause-wide
visit_some-requires-clause-wide c =
    let q = c.loop-next.queue.items in
    let y = c.from-symbol.result in
    let here : slice_get q c.loop-next.next ≡ Some y = read_at q c.loop-next.next c.index.result.now (omega (arith, c.loop-next-test.true, c.len.ensures)) c.index.ensures ∙ ap Some (sym c.from-symbol.ensures) in
    let lt = c.loop-next.invariant.inside y (there q c.loop-next.next y here) in
    let w = c.requires.wide in
    let s = c.index-sets-symbol.result in
    let is = read_at c.loop-next.sets y s (omega (arith, lt, c.loop-next.invariant.count)) c.index-sets-symbol.is in
    (w.0, c.loop-next.invariant.wide w.0 w.2, w.3, wide_same w.0 s c.in_ok-from.from (c.in_ok-from.ensures ∙ ap (λ (b : BitSet). b.words.items) (sym c.index-sets-symbol.is)) (c.loop-next.invariant.wide w.0 w.2 y s is))

pub loop-next-preserved : goal.loop-next-preserved
loop-next-preserved c =
    let q = c.loop-next.queue.items in
    let y = c.from-symbol.result in
    let here : slice_get q c.loop-next.next ≡ Some y = read_at q c.loop-next.next c.index.result.now (omega (arith, c.loop-next-test.true, c.len.ensures)) c.index.ensures ∙ ap Some (sym c.from-symbol.ensures) in
    let lt = c.loop-next.invariant.inside y (there q c.loop-next.next y here) in
    let s = c.index-sets-symbol.result in
    let is = read_at c.loop-next.sets y s (omega (arith, lt, c.loop-next.invariant.count)) c.index-sets-symbol.is in
    let at = read_at c.args.edges.now y c.index-edges-symbol.result (omega (arith, lt, c.requires.net.rows)) c.index-edges-symbol.is in
    flow_step c.args.edges.now c.args.gives.now c.args.sets.now c.loop-next.sets c.visit_some.new.sets q c.visit_some.new.queue.items c.loop-next.next y s c.in_ok-from.from c.index-edges-symbol.result c.as_slice.result.now c.requires.net here is
    (c.in_ok-from.ensures ∙ ap (λ (b : BitSet). b.words.items) (sym c.index-sets-symbol.is)) at c.as_slice.ensures.value c.loop-next.invariant c.in_ok-visit_some.ensures.gains c.in_ok-visit_some.ensures.tells

pub returns : goal.returns
returns c = flow_ends c.args.edges.now c.args.gives.now c.args.sets.now c.loop-next.sets c.loop-next.queue.items c.loop-next.next (omega (arith, c.loop-next-test.false, c.len.ensures)) c.loop-next.invariant
