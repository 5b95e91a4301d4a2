use Rattle.std.proofs.Common.{◌≡◌, arith, rules}
use Rattle.std.proofs.lemmas.Int.{ints}
use mir.Syntax.{w64}
use mir.Val.{SFits, to_z, of_z}
use Rattle.ts_node.proofs.ElementLemmas.{values_next}
use Rattle.ts_node.proofs.counts.values.Goals as goal

pub loop-element-preserved : goal.loop-element-preserved
loop-element-preserved c =
    let old = c.loop-element.invariant in
    let f1 : SFits w64 c.loop-element.total = search rules in
    let f2 : SFits w64 c.widened.result = search rules in
    let f3 : SFits w64 c.plus-total.result = search rules in
    let z : to_z w64 (of_z w64 c.plus-total.result) ≡ c.plus-total.result = omega (arith, ints) in
    record {
      total = omega (arith, ints, old.total, values_next c.args.elements.now c.loop-element.element-index c.loop-element-test.true, c.plus-total.ensures.sum, c.widened.ensures.value);
      small = rw z (omega (arith, ints, old.small, c.plus-total.ensures.modest, c.widened.ensures.small));
    }
