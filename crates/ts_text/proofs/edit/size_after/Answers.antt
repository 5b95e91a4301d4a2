use Rattle.std.proofs.Common.{◌≡◌, ◌∙◌, subst, ℕ, ◌+◌, ◌-◌, length, arith}
use Rattle.ts_text.specs.Parts.{IsSize}
use Rattle.ts_text.proofs.PartLemmas.{begins, is_ready, sized}
use Rattle.ts_text.proofs.edit.size_after.Goals as goal

pub loop-part-init : goal.loop-part-init
loop-part-init c = record {
  at = begins c.args.text.now c.args.parts.now c.len-length.ensures.text;
  is = omega arith;
  bound = omega arith;
}

pub overflow_sub-part : goal.overflow_sub-part
overflow_sub-part c =
    (is_ready c.args.text.now c.args.parts.now c.loop-part.part-index c.loop-part.place c.part-item.result c.requires.within c.loop-part-test.true c.part-item.is c.loop-part.invariant.at).ordered

pub loop-part-preserved : goal.loop-part-preserved
loop-part-preserved c =
    let size = sized c.args.text.now c.args.parts.now c.loop-part.part-index c.loop-part.place c.loop-part.size c.part-item.result c.len-length.ensures.text c.len.ensures.text c.requires.within c.requires.apart c.loop-part-test.true c.part-item.is c.loop-part.invariant in
    let one : c.from.result ≡ c.part-item.result.start - c.loop-part.place = c.from.ensures in
    let two : c.from-in-loop-part.result ≡ length c.part-item.result.new = c.from-in-loop-part.ensures ∙ c.len.ensures.count in
    let same : c.loop-part.size + (c.part-item.result.start - c.loop-part.place + length c.part-item.result.new) ≡ c.loop-part.size + (c.from.result + c.from-in-loop-part.result) = omega arith in
    subst (λ (n : ℕ). IsSize c.args.text.now c.args.parts.now (c.loop-part.part-index + 1) c.part-item.result.end n) same size
