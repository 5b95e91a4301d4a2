use Rattle.std.proofs.Common.{refl, ◌≡◌, arith, rules}
use Rattle.std.proofs.lemmas.Int.{ints}
use mir.Syntax.{w32, w64}
use mir.Val.{SFits, to_z, of_z}
use Rattle.ts_node.specs.declared.node.Counts.{Counts}
use Rattle.ts_node.proofs.RunLemmas.{one_counted}
use Rattle.ts_node.proofs.counts.counts_of_one.Goals as goal

pub returns : goal.returns
returns c =
    let f : SFits w32 c.args.element.dynamic = search rules in
    let f1 : SFits w64 c.widened.result = search rules in
    let z : to_z w64 (of_z w64 c.widened.result) ≡ c.widened.result = omega (arith, ints) in
    let v : to_z w64 (of_z w64 c.widened.result) ≡ c.args.element.dynamic = omega (arith, ints, c.widened.ensures.value) in
    let counts : Counts = record {
      elements = 1;
      children = c.args.element.children;
      settled = c.args.element.settled;
      values = to_z w64 (of_z w64 c.widened.result);
      reach = c.further.result;
      sums = c.sums-sums.result;
    } in
    one_counted c.args.element c.args.children.now counts c.requires.own c.sums-sums.ensures (record {
      elements = refl;
      children = refl;
      settled = refl;
      values = v;
      small = rw z c.widened.ensures.small;
      reach = c.further.ensures.far;
      near = c.further.ensures.near;
    })
