use Rattle.std.proofs.Common.{◌≡◌, ◌-◌, ◌≤◌, ◌∙◌, ℕ, ap, arith, length, length-drop, drop}
use Rattle.spec_trees.specs.Trees.{elements_of}
use Rattle.spec_trees.specs.Made.{bytes_before, elements_from, stretch_in}
use Rattle.ts_node.specs.Places.{settled_after}
use Rattle.ts_node.proofs.SettledLemmas.{by_within}
use Rattle.ts_marks.specs.Passing.{left_of, next_start_of}
use Rattle.ts_marks.proofs.MarkedLemmas.{count_is}
use Rattle.ts_marks.proofs.SkipLemmas.{stay_to}
use Rattle.ts_marks.proofs.marking.first_reached.Goals as goal

pub overflow_add-result : goal.overflow_add-result
overflow_add-result c =
    let n = c.args.node.now in
    let k = c.args.k in
    let few : settled_after c.saturating_sub-room.result k (stretch_in n) ≤ length (drop k (elements_of n)) =
    by_within (c.saturating_sub-room.result - bytes_before k (stretch_in n)) (drop k (elements_of n)) (elements_from k (stretch_in n)).children in
    omega (arith, c.settled_within.ensures, few, length-drop k (elements_of n), c.requires.within, c.nodes.ensures.node.sized.few, count_is n)

pub returns-clause-within : goal.returns-clause-within
returns-clause-within c =
    let n = c.args.node.now in
    let k = c.args.k in
    let few : settled_after c.saturating_sub-room.result k (stretch_in n) ≤ length (drop k (elements_of n)) =
    by_within (c.saturating_sub-room.result - bytes_before k (stretch_in n)) (drop k (elements_of n)) (elements_from k (stretch_in n)).children in
    omega (arith, c.settled_within.ensures, few, length-drop k (elements_of n), c.requires.within)

pub returns-clause-stay : goal.returns-clause-stay
returns-clause-stay c =
    let n = c.args.node.now in
    let room : c.saturating_sub-room.result ≡ next_start_of (left_of c.args.passed) - c.args.place = c.saturating_sub-room.ensures ∙ ap (λ (m : ℕ). m - c.args.place) c.next_start.ensures in
    let is : c.settled_within.result ≡ settled_after (next_start_of (left_of c.args.passed) - c.args.place) c.args.k (stretch_in n) =
    c.settled_within.ensures ∙ ap (λ (m : ℕ). settled_after m c.args.k (stretch_in n)) room in
    stay_to c.args.passed n c.args.place c.args.k c.settled_within.result c.nodes.ensures.whole c.requires.from is
