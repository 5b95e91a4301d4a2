use Rattle.std.proofs.Common.{refl, get_or}
use Rattle.std.proofs.lemmas.List.Elements.{Contains-get_or}
use Rattle.ts_search.specs.Ways.{HasOne}
use Rattle.ts_search.proofs.PassLemmas.{none_of, of_none}
use Rattle.ts_search.proofs.TakeLemmas.{none_more_at, none_all, no_truth}
use Rattle.ts_search.proofs.taking.none_has.Goals as goal

pub returns-then-has_one : goal.returns-then-has_one
returns-then-has_one c = (
  (λ h. absurd (no_truth h)),
  (λ h. absurd (of_none c.args.sight.now.nodes c.args.without.now c.args.numbers.now h (get_or c.args.numbers.now c.loop-n.n-index 0) (Contains-get_or c.args.numbers.now c.loop-n.n-index 0 c.loop-n-test.true) (c.has_one.ensures.0 c.if-has_one.true))),
)

pub loop-n-preserved : goal.loop-n-preserved
loop-n-preserved c = none_more_at (HasOne c.args.sight.now.nodes c.args.without.now) c.args.numbers.now c.loop-n.n-index 0 c.loop-n-test.true c.loop-n.invariant
    (λ h. let t = c.has_one.ensures.1 h in let f = c.if-has_one.false in cc)

pub returns : goal.returns
returns c = (
  (λ h. none_of c.args.sight.now.nodes c.args.without.now c.args.numbers.now (none_all (HasOne c.args.sight.now.nodes c.args.without.now) c.args.numbers.now c.loop-n.n-index c.loop-n-test.false c.loop-n.invariant)),
  (λ h. refl),
)
