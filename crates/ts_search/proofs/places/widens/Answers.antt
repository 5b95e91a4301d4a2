use Rattle.std.proofs.Common.{◌+◌, arith}
use Rattle.ts_search.proofs.WidenLemmas.{From, none_before, none_more, none_passed, none_widens}
use Rattle.ts_search.proofs.RunLemmas.{no_truth}
use Rattle.ts_search.proofs.places.widens.Goals as goal

pub loop-first-init : goal.loop-first-init
loop-first-init c =
    none_passed c.args.siblings.now c.args.rest.now c.args.at c.args.taken c.args.tail.now c.args.from c.next_taken-first.result c.next_taken-first.ensures
    (none_before c.args.siblings.now c.args.rest.now c.args.at c.args.taken c.args.tail.now c.args.from c.requires)

pub loop-first-preserved : goal.loop-first-preserved
loop-first-preserved c =
    none_passed c.args.siblings.now c.args.rest.now c.args.at c.args.taken c.args.tail.now (c.loop-first.first + 1) c.next_taken-first-in-loop-first.result c.next_taken-first-in-loop-first.ensures
    (none_more (From c.args.siblings.now c.args.rest.now c.args.at c.args.taken c.args.tail.now) c.args.at.lo c.loop-first.first c.loop-first.invariant
    (λ h. let t = c.widens_from.ensures.1 h in let f = c.if-widens_from.false in cc))

pub loop-first-smaller : goal.loop-first-smaller
loop-first-smaller c = let on = c.next_taken-first-in-loop-first.ensures.0 in omega (arith, c.loop-first-test.true, on)

pub returns : goal.returns
returns c = (
  (λ h. absurd (no_truth h)),
  (λ w. absurd (none_widens c.args.siblings.now c.args.rest.now c.args.at c.args.taken c.args.tail.now c.loop-first.first c.last_start-end.result c.loop-first-test.false c.last_start-end.ensures c.loop-first.invariant w)),
)
