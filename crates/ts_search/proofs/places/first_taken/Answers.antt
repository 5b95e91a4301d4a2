use Rattle.std.proofs.Common.{◌+◌, arith}
use Rattle.ts_search.proofs.WidenLemmas.{none_taken_before, none_taken_more, none_taken_on}
use Rattle.ts_search.proofs.places.first_taken.Goals as goal

pub loop-place-init : goal.loop-place-init
loop-place-init c = record {
  low = c.next_taken-place.ensures.0;
  none = none_taken_on c.args.siblings.now c.args.at c.args.at.lo c.next_taken-place.result (none_taken_before c.args.siblings.now c.args.at) c.next_taken-place.ensures;
}

pub loop-place-preserved : goal.loop-place-preserved
loop-place-preserved c = record {
  low = (let l = c.loop-place.invariant.low in let on = c.next_taken-place-in-loop-place.ensures.0 in omega (arith, l, on));
  none = none_taken_on c.args.siblings.now c.args.at (c.loop-place.place + 1) c.next_taken-place-in-loop-place.result
      (none_taken_more c.args.siblings.now c.args.at c.loop-place.place c.loop-place.invariant.none (λ h. let t = c.begins.ensures.1 h in let f = c.if-begins.false in cc)) c.next_taken-place-in-loop-place.ensures;
}

pub loop-place-smaller : goal.loop-place-smaller
loop-place-smaller c = let on = c.next_taken-place-in-loop-place.ensures.0 in omega (arith, c.loop-place-test.true, on)

pub returns-then-begins-clause-none : goal.returns-then-begins-clause-none
returns-then-begins-clause-none c = c.loop-place.invariant.none

pub returns-then-begins-clause-taken : goal.returns-then-begins-clause-taken
returns-then-begins-clause-taken c = λ below. (c.loop-place.invariant.low, c.begins.ensures.0 c.if-begins.true)

pub returns-clause-none : goal.returns-clause-none
returns-clause-none c = λ p low below t. c.loop-place.invariant.none p low (omega (arith, below, c.loop-place-test.false)) t

pub returns-clause-taken : goal.returns-clause-taken
returns-clause-taken c = λ below. absurd (omega (arith, below, c.len-count.ensures))
