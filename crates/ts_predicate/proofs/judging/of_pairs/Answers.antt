use Rattle.std.proofs.Common.{arith}
use Rattle.ts_predicate.proofs.AskLemmas.{pairs_ended}
use Rattle.ts_predicate.proofs.judging.of_pairs.Goals as goal

pub returns : goal.returns
returns c =
    pairs_ended c.args.predicate.now.some c.args.predicate.now.negated c.args.texts.now c.args.others.now c.loop-k.k
    (λ k low high. omega (arith, low, high, c.loop-k-test.false, c.min-k-end.ensures))
    (λ s n. omega (arith, c.may_be_equal.ensures.yes c.if-not-may_be_equal.false s n))
    c.loop-k.invariant
