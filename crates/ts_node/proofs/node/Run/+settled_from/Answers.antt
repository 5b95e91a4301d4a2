use Rattle.std.proofs.Common.{◌≡◌, ◌+◌, ◌-◌, ◌≤◌, ◌∙◌, arith, rules, Fits, w32, length, drop, length-drop}
use Rattle.spec_trees.specs.Made.{settled_first}
use Rattle.ts_node.specs.Held.{IsCount}
use Rattle.ts_node.proofs.ElementLemmas.{settled_right, settled_left, settled_both, settled_within}
use Rattle.ts_node.proofs.node.Run.+settled_from.Goals as goal

pub returns-then-k-middle : goal.returns-then-k-middle
returns-then-k-middle t c =
    let left : IsCount c.counts-middle.result c.in-Branch.left = rw c.get.ensures at c.counts-middle.ensures in
    let there : c.settled_from.result ≡ settled_first (drop (c.args.k - length c.in-Branch.left.elements) c.in-Branch.right.elements) = rw (c.get-then-k-middle.ensures, left.elements) at c.settled_from.ensures in
    there ∙ settled_right c.in-Branch.left c.in-Branch.right c.args.self.now c.args.k (rw c.in-Branch.is at c.self.view_is) (omega (arith, c.if-k-middle.true, left.elements))

pub returns-then-end-middle : goal.returns-then-end-middle
returns-then-end-middle t c =
    let left : IsCount c.counts-middle.result c.in-Branch.left = rw c.get.ensures at c.counts-middle.ensures in
    let low : c.settled_from-low.result ≡ settled_first (drop c.args.k c.in-Branch.left.elements) = rw c.get-else-k-middle.ensures at c.settled_from-low.ensures in
    low ∙ settled_left c.in-Branch.left c.in-Branch.right c.args.self.now c.args.k (rw c.in-Branch.is at c.self.view_is) (omega (arith, c.if-k-middle.false, left.elements)) (omega (arith, c.if-end-middle.true, left.elements, low))

pub returns-else-end-middle : goal.returns-else-end-middle
returns-else-end-middle t c =
    let left : IsCount c.counts-middle.result c.in-Branch.left = rw c.get.ensures at c.counts-middle.ensures in
    let low : c.settled_from-low.result ≡ settled_first (drop c.args.k c.in-Branch.left.elements) = rw c.get-else-k-middle.ensures at c.settled_from-low.ensures in
    let more : c.settled_first.result ≡ settled_first c.in-Branch.right.elements = rw c.get-else-end-middle.ensures at c.settled_first.ensures in
    let both : settled_first (drop c.args.k c.in-Branch.left.elements) + settled_first c.in-Branch.right.elements ≡ settled_first (drop c.args.k c.args.self.now.elements) =
    settled_both c.in-Branch.left c.in-Branch.right c.args.self.now c.args.k (rw c.in-Branch.is at c.self.view_is) (omega (arith, c.if-k-middle.false, left.elements)) (omega (arith, c.if-end-middle.false, left.elements, low)) in
    omega (arith, both, low, more)

pub overflow_add-end : goal.overflow_add-end
overflow_add-end t c =
    let left : IsCount c.counts-middle.result c.in-Branch.left = rw c.get.ensures at c.counts-middle.ensures in
    let low : c.settled_from-low.result ≡ settled_first (drop c.args.k c.in-Branch.left.elements) = rw c.get-else-k-middle.ensures at c.settled_from-low.ensures in
    let all : Fits w32 c.counts-middle.result.elements = search rules in
    let small : c.args.k + c.settled_from-low.result ≤ c.counts-middle.result.elements =
    omega (arith, low, left.elements, c.if-k-middle.false, settled_within (drop c.args.k c.in-Branch.left.elements), length-drop c.args.k c.in-Branch.left.elements) in
    record { fits = omega (arith, small, all.fits) }

pub overflow_add-result : goal.overflow_add-result
overflow_add-result t c =
    let left : IsCount c.counts-middle.result c.in-Branch.left = rw c.get.ensures at c.counts-middle.ensures in
    let low : c.settled_from-low.result ≡ settled_first (drop c.args.k c.in-Branch.left.elements) = rw c.get-else-k-middle.ensures at c.settled_from-low.ensures in
    let more : c.settled_first.result ≡ settled_first c.in-Branch.right.elements = rw c.get-else-end-middle.ensures at c.settled_first.ensures in
    let both : settled_first (drop c.args.k c.in-Branch.left.elements) + settled_first c.in-Branch.right.elements ≡ settled_first (drop c.args.k c.args.self.now.elements) =
    settled_both c.in-Branch.left c.in-Branch.right c.args.self.now c.args.k (rw c.in-Branch.is at c.self.view_is) (omega (arith, c.if-k-middle.false, left.elements)) (omega (arith, c.if-end-middle.false, left.elements, low)) in
    let all : Fits w32 c.counts.result.elements = search rules in
    let small : c.settled_from-low.result + c.settled_first.result ≤ c.counts.result.elements =
    omega (arith, both, low, more, settled_within (drop c.args.k c.args.self.now.elements), length-drop c.args.k c.args.self.now.elements, c.counts.ensures.elements) in
    record { fits = omega (arith, small, all.fits) }
