use Rattle.std.proofs.Common.{◌≡◌, sym, refl, subst, ℕ, ◌+◌, ◌-◌, Bool, List, length, take, drop, reverse, arith}
use Rattle.spec_graph.specs.Links.{depths_of}
use Rattle.ts_graph.specs.Ways.{AreAt}
use Rattle.ts_reductions.specs.Depths.{depth_when}
use Rattle.ts_reductions.proofs.GatherLemmas.{at_long, at_take, at_drop, shallow_take, shallow_drop, depth_longer, depth_all}
use Rattle.ts_reductions.proofs.gathering.depth_over.Goals as goal

pub deepest-requires : goal.deepest-requires
deepest-requires c =
    let w = c.requires.way in
    (drop (length c.args.numbers.now - 1) w.0, subst (λ (ns : List ℕ). AreAt c.args.graph.now.links ns (drop (length c.args.numbers.now - 1) w.0)) (sym c.split_at.ensures.back) (at_drop c.args.graph.now.links (length c.args.numbers.now - 1) c.args.numbers.now w.0 w.1), shallow_drop (length c.args.numbers.now - 1) w.0 w.2)

pub deepest-requires-then-lengthens : goal.deepest-requires-then-lengthens
deepest-requires-then-lengthens c =
    let w = c.requires.way in
    (take (length c.args.numbers.now - 1) w.0, subst (λ (ns : List ℕ). AreAt c.args.graph.now.links ns (take (length c.args.numbers.now - 1) w.0)) (sym c.split_at.ensures.front) (at_take c.args.graph.now.links (length c.args.numbers.now - 1) c.args.numbers.now w.0 w.1), shallow_take (length c.args.numbers.now - 1) w.0 w.2)

pub returns-then-lengthens : goal.returns-then-lengthens
returns-then-lengthens c = λ way at.
    let n = at_long c.args.graph.now.links c.args.numbers.now way at in
    let more_than_none = c.requires.some in
    let first = c.deepest.ensures.depth (drop (length c.args.numbers.now - 1) way) (subst (λ (ns : List ℕ). AreAt c.args.graph.now.links ns (drop (length c.args.numbers.now - 1) way)) (sym c.split_at.ensures.back) (at_drop c.args.graph.now.links (length c.args.numbers.now - 1) c.args.numbers.now way at)) in
    let more = c.deepest-then-lengthens.ensures.depth (take (length c.args.numbers.now - 1) way) (subst (λ (ns : List ℕ). AreAt c.args.graph.now.links ns (take (length c.args.numbers.now - 1) way)) (sym c.split_at.ensures.front) (at_take c.args.graph.now.links (length c.args.numbers.now - 1) c.args.numbers.now way at)) in
    let m = c.max.ensures in
    subst (λ (b : Bool). c.max.result ≡ depth_when b (reverse (depths_of way))) (sym c.if-lengthens.true)
    (depth_longer way (length c.args.numbers.now - 1) c.deepest.result c.deepest-then-lengthens.result c.max.result (omega (arith, n, more_than_none)) first more (omega (arith, m)))

pub returns-else-lengthens : goal.returns-else-lengthens
returns-else-lengthens c = λ way at.
    subst (λ (b : Bool). 1 + c.deepest-else-lengthens.result ≡ depth_when b (reverse (depths_of way))) (sym c.if-lengthens.false)
    (depth_all (depths_of way) c.deepest-else-lengthens.result (1 + c.deepest-else-lengthens.result) (c.deepest-else-lengthens.ensures.depth way at) refl)
