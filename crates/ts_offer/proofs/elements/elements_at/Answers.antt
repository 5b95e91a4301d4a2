use Rattle.std.proofs.Common.{◌≡◌, ◌<◌, sym, subst, ℕ, drop, arith}
use Rattle.spec_trees.specs.Trees.{elements_of}
use Rattle.spec_trees.specs.Made.{settled_first}
use Rattle.ts_offer.proofs.StopLemmas.{parted_once}
use Rattle.ts_offer.proofs.elements.elements_at.Goals as goal

pub returns-in-Some-clause-none : goal.returns-in-Some-clause-none
returns-in-Some-clause-none c from h none =
    let same : c.in-Some.from ≡ from = parted_once c.args.node.now c.args.at c.args.place from c.in-Some.from h (omega (arith, c.in-Some.ensures.1, h.begins)) in
    let settled : 0 < settled_first (drop c.in-Some.from (elements_of c.args.node.now)) = subst (λ (k : ℕ). 0 < settled_first (drop k (elements_of c.args.node.now))) (sym same) h.settled in
    c.settled_elements.ensures.none (omega (arith, same, h.later)) settled none
