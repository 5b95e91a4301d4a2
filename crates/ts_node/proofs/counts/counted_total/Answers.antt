use Rattle.std.proofs.Common.{arith, rules, ◌≡◌, ◌<◌, ◌^◌, ◌∙◌, ap}
use Rattle.std.proofs.lemmas.Int.{ints}
use Rattle.std.specs.Int.RustNames.{unsigned_abs}
use mir.Syntax.{w64, w128}
use mir.Val.{SFits, to_z, of_z}
use Rattle.spec_trees.specs.Trees.{all_totals}
use Rattle.ts_node.proofs.counts.counted_total.Goals as goal

pub narrowed-requires : goal.narrowed-requires
narrowed-requires c =
    let q = c.requires.1.sums in
    let t : unsigned_abs c.args.counts.sums.totals ≡ unsigned_abs (all_totals c.requires.0.children) = ap unsigned_abs q.totals in
    let f : SFits w128 c.args.counts.sums.totals = search rules in
    let z : to_z w128 (of_z w128 c.args.counts.sums.totals) ≡ c.args.counts.sums.totals = omega (arith, ints) in
    let g : unsigned_abs c.args.counts.sums.totals < 2 ^ 63 = omega (arith, t, q.modest, c.requires.2) in
    rw z g

pub returns-clause-total : goal.returns-clause-total
returns-clause-total c s p =
    let f : SFits w128 c.args.counts.sums.totals = search rules in
    let z : to_z w128 (of_z w128 c.args.counts.sums.totals) ≡ c.args.counts.sums.totals = omega (arith, ints) in
    let f2 : SFits w64 c.narrowed.result = search rules in
    let z2 : to_z w64 (of_z w64 c.narrowed.result) ≡ c.narrowed.result = omega (arith, ints) in
    z2 ∙ c.narrowed.ensures ∙ z ∙ p.sums.totals

pub returns-clause-modest : goal.returns-clause-modest
returns-clause-modest c s p =
    let f : SFits w128 c.args.counts.sums.totals = search rules in
    let z : to_z w128 (of_z w128 c.args.counts.sums.totals) ≡ c.args.counts.sums.totals = omega (arith, ints) in
    let f2 : SFits w64 c.narrowed.result = search rules in
    let z2 : to_z w64 (of_z w64 c.narrowed.result) ≡ c.narrowed.result = omega (arith, ints) in
    let t = ap unsigned_abs (z2 ∙ c.narrowed.ensures ∙ z ∙ p.sums.totals) in
    omega (arith, t, p.sums.modest)
