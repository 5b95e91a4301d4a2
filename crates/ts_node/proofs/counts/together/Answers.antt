use Rattle.std.proofs.Common.{refl, ◌≡◌, arith, rules, ◌+◌, ◌<◌, ◌^◌}
use Rattle.std.proofs.lemmas.Int.{ints}
use Rattle.std.specs.Int.RustNames.{unsigned_abs}
use mir.Syntax.{w64}
use mir.Val.{SFits, to_z, of_z}
use lib.IntN.{◌+ℤ◌}
use Rattle.ts_node.specs.declared.node.Counts.{Counts}
use Rattle.ts_node.proofs.RunLemmas.{AddsBoth, both_counts}
use Rattle.ts_node.proofs.counts.together.Goals as goal

pub plus-requires : goal.plus-requires
plus-requires c =
    let f1 : SFits w64 c.args.low.values = search rules in
    let f2 : SFits w64 c.args.high.values = search rules in
    let z1 : to_z w64 (of_z w64 c.args.low.values) ≡ c.args.low.values = omega (arith, ints) in
    let z2 : to_z w64 (of_z w64 c.args.high.values) ≡ c.args.high.values = omega (arith, ints) in
    let g : unsigned_abs c.args.low.values + unsigned_abs c.args.high.values < 2 ^ 63 = c.requires.values in
    rw (z1, z2) g

pub returns : goal.returns
returns c s t p q =
    let f1 : SFits w64 c.args.low.values = search rules in
    let f2 : SFits w64 c.args.high.values = search rules in
    let f3 : SFits w64 c.plus.result = search rules in
    let v : to_z w64 (of_z w64 c.plus.result) ≡ c.args.low.values +ℤ c.args.high.values = omega (arith, ints, c.plus.ensures.sum) in
    let sums : AddsBoth c.args.low.sums c.args.high.sums c.both_sums.result = record {
      nodes = c.both_sums.ensures.nodes;
      spans = c.both_sums.ensures.spans;
      depth = c.both_sums.ensures.depth;
      totals = c.both_sums.ensures.totals;
    } in
    let counts : Counts = record {
      elements = c.args.low.elements + c.args.high.elements;
      children = c.args.low.children + c.args.high.children;
      settled = c.both_so.result;
      values = to_z w64 (of_z w64 c.plus.result);
      reach = c.max.result;
      sums = c.both_sums.result;
    } in
    both_counts c.args.low c.args.high counts s t p q (record {
      elements = refl;
      children = refl;
      settled = c.both_so.ensures;
      values = v;
      reach = c.max.ensures;
      sums = sums;
    })
