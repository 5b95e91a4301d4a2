use Rattle.std.proofs.Common.{◌≡◌, ◌+◌, ◌-◌, ◌≤◌, ◌∙◌, arith, rules, Fits, w64, length}
use Rattle.spec_trees.specs.Trees.{all_spans}
use Rattle.spec_trees.specs.Made.{bytes_before}
use Rattle.ts_node.specs.Held.{IsCount}
use Rattle.ts_node.proofs.ElementLemmas.{before_left, before_right, bytes_within}
use Rattle.ts_node.proofs.node.Run.+bytes_before.Goals as goal

pub returns-then-k-middle : goal.returns-then-k-middle
returns-then-k-middle t c =
    let left : IsCount c.counts-low.result c.in-Branch.left = rw c.get.ensures at c.counts-low.ensures in
    let first : c.bytes_before.result ≡ bytes_before c.args.k c.in-Branch.left = rw c.get-then-k-middle.ensures at c.bytes_before.ensures in
    first ∙ before_left c.in-Branch.left c.in-Branch.right c.args.self.now c.args.k (rw c.in-Branch.is at c.self.view_is) left.own (omega (arith, c.if-k-middle.true, left.elements))

pub returns-else-k-middle : goal.returns-else-k-middle
returns-else-k-middle t c =
    let left : IsCount c.counts-low.result c.in-Branch.left = rw c.get.ensures at c.counts-low.ensures in
    let more : c.bytes_before-else-k-middle.result ≡ bytes_before (c.args.k - length c.in-Branch.left.elements) c.in-Branch.right = rw (c.get-else-k-middle.ensures, left.elements) at c.bytes_before-else-k-middle.ensures in
    let both : all_spans c.in-Branch.left.children + bytes_before (c.args.k - length c.in-Branch.left.elements) c.in-Branch.right ≡ bytes_before c.args.k c.args.self.now =
    before_right c.in-Branch.left c.in-Branch.right c.args.self.now c.args.k (rw c.in-Branch.is at c.self.view_is) left.own (omega (arith, c.if-k-middle.false, left.elements)) in
    omega (arith, both, more, left.sums.spans)

pub overflow_add-result : goal.overflow_add-result
overflow_add-result t c =
    let left : IsCount c.counts-low.result c.in-Branch.left = rw c.get.ensures at c.counts-low.ensures in
    let more : c.bytes_before-else-k-middle.result ≡ bytes_before (c.args.k - length c.in-Branch.left.elements) c.in-Branch.right = rw (c.get-else-k-middle.ensures, left.elements) at c.bytes_before-else-k-middle.ensures in
    let both : all_spans c.in-Branch.left.children + bytes_before (c.args.k - length c.in-Branch.left.elements) c.in-Branch.right ≡ bytes_before c.args.k c.args.self.now =
    before_right c.in-Branch.left c.in-Branch.right c.args.self.now c.args.k (rw c.in-Branch.is at c.self.view_is) left.own (omega (arith, c.if-k-middle.false, left.elements)) in
    let all : Fits w64 c.counts.result.sums.spans = search rules in
    let small : c.counts-low.result.sums.spans + c.bytes_before-else-k-middle.result ≤ c.counts.result.sums.spans = omega (arith, both, more, left.sums.spans, bytes_within c.args.self.now c.args.k, c.counts.ensures.sums.spans) in
    record { fits = omega (arith, small, all.fits) }
