use Rattle.std.proofs.Common.{subst, List, ℕ}
use Rattle.std.specs.List.{Contains}
use Rattle.std.proofs.lemmas.List.{take_all}
use Rattle.ts_automata.specs.Classes.{HasBounds}
use Rattle.ts_automata.proofs.BoundLemmas.{ranges_none, ranges_more}
use Rattle.ts_automata.proofs.classes.push_ranges.Goals as goal

pub loop-range-init : goal.loop-range-init
loop-range-init c = ranges_none c.args.ranges.now _

pub loop-range-preserved : goal.loop-range-preserved
loop-range-preserved c = ranges_more c.args.ranges.now c.loop-range.range-index _ _ _ _ c.loop-range-test.true c.loop-range.invariant c.in_ok-push_bound.ensures

pub returns : goal.returns
returns c =
    let all = take_all _ _ c.loop-range-test.false in
    subst (λ (l : List (ℕ × ℕ)). HasBounds (Contains l) c.args.all.now.items c.loop-range.all.items) all c.loop-range.invariant
