use Rattle.std.proofs.Common.{arith}
use Rattle.ts_text.proofs.PartLemmas.{apart_more, apart_all, not_apart}
use Rattle.ts_text.proofs.edit.are_apart.Goals as goal

pub loop-next-init : goal.loop-next-init
loop-next-init c = (omega arith, λ k p q lt first second. absurd (omega arith))

pub returns-then-parts-next : goal.returns-then-parts-next
returns-then-parts-next c = (
  λ ok. absurd (cc),
  λ all. absurd
      (not_apart c.args.parts.now c.loop-next.next c.index-parts-next.result c.index-parts-next-in-loop-next.result c.loop-next.invariant.0 c.loop-next-test.true c.if-parts-next.true all),
)

pub loop-next-preserved : goal.loop-next-preserved
loop-next-preserved c = (
  omega arith,
  apart_more c.args.parts.now c.loop-next.next c.index-parts-next.result c.index-parts-next-in-loop-next.result c.loop-next.invariant.0 c.if-parts-next.false c.loop-next.invariant.1,
)

pub returns : goal.returns
returns c = (λ ok. apart_all c.args.parts.now c.loop-next.next c.loop-next-test.false c.loop-next.invariant.1, λ all. cc)
