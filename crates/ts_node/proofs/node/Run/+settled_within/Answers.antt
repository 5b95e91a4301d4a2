use Rattle.std.proofs.Common.{◌≡◌, ◌+◌, ◌-◌, ◌≤◌, ◌∙◌, arith, rules, Fits, w32, length, drop, length-drop}
use Rattle.spec_trees.specs.Trees.{all_spans}
use Rattle.spec_trees.specs.Made.{bytes_before, elements_from}
use Rattle.ts_node.specs.Held.{IsCount}
use Rattle.ts_node.specs.Places.{settled_after, settled_by}
use Rattle.ts_node.proofs.SettledLemmas.{after_right, after_left, after_both, by_within}
use Rattle.ts_node.proofs.node.Run.+settled_within.Goals as goal

pub returns-then-k-middle : goal.returns-then-k-middle
returns-then-k-middle t c =
    let left : IsCount c.counts-low.result c.in-Branch.left = rw c.get.ensures at c.counts-low.ensures in
    let there : c.settled_within.result ≡ settled_after (c.args.room - all_spans c.in-Branch.left.children) (c.args.k - length c.in-Branch.left.elements) c.in-Branch.right = rw (c.get-then-k-middle.ensures, c.saturating_sub-inner.ensures, left.elements, left.sums.spans) at c.settled_within.ensures in
    there ∙ after_right c.in-Branch.left c.in-Branch.right c.args.self.now c.args.k c.args.room (rw c.in-Branch.is at c.self.view_is) left.own (omega (arith, c.if-k-middle.true, left.elements))

pub returns-then-end-middle : goal.returns-then-end-middle
returns-then-end-middle t c =
    let left : IsCount c.counts-low.result c.in-Branch.left = rw c.get.ensures at c.counts-low.ensures in
    let first : c.settled_within-first.result ≡ settled_after c.args.room c.args.k c.in-Branch.left = rw c.get-else-k-middle.ensures at c.settled_within-first.ensures in
    first ∙ after_left c.in-Branch.left c.in-Branch.right c.args.self.now c.args.k c.args.room (rw c.in-Branch.is at c.self.view_is) left.own (omega (arith, c.if-k-middle.false, left.elements)) (omega (arith, c.if-end-middle.true, left.elements, first))

pub returns-else-end-middle : goal.returns-else-end-middle
returns-else-end-middle t c =
    let left : IsCount c.counts-low.result c.in-Branch.left = rw c.get.ensures at c.counts-low.ensures in
    let first : c.settled_within-first.result ≡ settled_after c.args.room c.args.k c.in-Branch.left = rw c.get-else-k-middle.ensures at c.settled_within-first.ensures in
    let more : c.first_settled.result ≡ settled_by (c.args.room - all_spans c.in-Branch.left.children) c.in-Branch.right.elements c.in-Branch.right.children = rw (c.get-else-end-middle.ensures, c.saturating_sub-inner.ensures, left.sums.spans) at c.first_settled.ensures in
    let both : settled_after c.args.room c.args.k c.in-Branch.left + settled_by (c.args.room - all_spans c.in-Branch.left.children) c.in-Branch.right.elements c.in-Branch.right.children ≡ settled_after c.args.room c.args.k c.args.self.now =
    after_both c.in-Branch.left c.in-Branch.right c.args.self.now c.args.k c.args.room (rw c.in-Branch.is at c.self.view_is) left.own (omega (arith, c.if-k-middle.false, left.elements)) (omega (arith, c.if-end-middle.false, left.elements, first)) in
    omega (arith, both, first, more)

pub overflow_add-end : goal.overflow_add-end
overflow_add-end t c =
    let left : IsCount c.counts-low.result c.in-Branch.left = rw c.get.ensures at c.counts-low.ensures in
    let first : c.settled_within-first.result ≡ settled_after c.args.room c.args.k c.in-Branch.left = rw c.get-else-k-middle.ensures at c.settled_within-first.ensures in
    let all : Fits w32 c.counts-low.result.elements = search rules in
    let small : c.args.k + c.settled_within-first.result ≤ c.counts-low.result.elements =
    omega (arith, first, left.elements, c.if-k-middle.false, by_within (c.args.room - bytes_before c.args.k c.in-Branch.left) (drop c.args.k c.in-Branch.left.elements) (elements_from c.args.k c.in-Branch.left).children, length-drop c.args.k c.in-Branch.left.elements) in
    record { fits = omega (arith, small, all.fits) }

pub overflow_add-result : goal.overflow_add-result
overflow_add-result t c =
    let left : IsCount c.counts-low.result c.in-Branch.left = rw c.get.ensures at c.counts-low.ensures in
    let first : c.settled_within-first.result ≡ settled_after c.args.room c.args.k c.in-Branch.left = rw c.get-else-k-middle.ensures at c.settled_within-first.ensures in
    let more : c.first_settled.result ≡ settled_by (c.args.room - all_spans c.in-Branch.left.children) c.in-Branch.right.elements c.in-Branch.right.children = rw (c.get-else-end-middle.ensures, c.saturating_sub-inner.ensures, left.sums.spans) at c.first_settled.ensures in
    let both : settled_after c.args.room c.args.k c.in-Branch.left + settled_by (c.args.room - all_spans c.in-Branch.left.children) c.in-Branch.right.elements c.in-Branch.right.children ≡ settled_after c.args.room c.args.k c.args.self.now =
    after_both c.in-Branch.left c.in-Branch.right c.args.self.now c.args.k c.args.room (rw c.in-Branch.is at c.self.view_is) left.own (omega (arith, c.if-k-middle.false, left.elements)) (omega (arith, c.if-end-middle.false, left.elements, first)) in
    let all : Fits w32 c.counts.result.elements = search rules in
    let small : c.settled_within-first.result + c.first_settled.result ≤ c.counts.result.elements =
    omega (arith, both, first, more, by_within (c.args.room - bytes_before c.args.k c.args.self.now) (drop c.args.k c.args.self.now.elements) (elements_from c.args.k c.args.self.now).children, length-drop c.args.k c.args.self.now.elements, c.counts.ensures.elements) in
    record { fits = omega (arith, small, all.fits) }
