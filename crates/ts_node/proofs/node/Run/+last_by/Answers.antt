use Rattle.std.proofs.Common.{◌+◌, ◌-◌, ◌≤◌, arith, rules, Fits, w32, subst, sym, ℕ}
use Rattle.spec_trees.specs.Trees.{all_spans}
use Rattle.ts_node.specs.Held.{IsCount}
use Rattle.ts_node.specs.Places.{IsLastBy}
use Rattle.ts_node.proofs.PlaceLemmas.{last_left, last_right}
use Rattle.ts_node.proofs.node.Run.+last_by.Goals as goal

pub returns-then-offset-bytes : goal.returns-then-offset-bytes
returns-then-offset-bytes t c =
    let left : IsCount c.counts-low.result c.in-Branch.left = rw c.get.ensures at c.counts-low.ensures in
    last_left c.in-Branch.left c.in-Branch.right c.args.self.now c.args.offset c.last_by.result (rw c.in-Branch.is at c.self.view_is) left.own
    (omega (arith, c.if-offset-bytes.true, left.sums.spans)) (rw c.get-then-offset-bytes.ensures at c.last_by.ensures)

pub returns-else-offset-bytes : goal.returns-else-offset-bytes
returns-else-offset-bytes t c =
    let left : IsCount c.counts-low.result c.in-Branch.left = rw c.get.ensures at c.counts-low.ensures in
    let past : all_spans c.in-Branch.left.children ≤ c.args.offset = omega (arith, c.if-offset-bytes.false, left.sums.spans) in
    let more : IsLastBy (c.args.offset - all_spans c.in-Branch.left.children) c.in-Branch.right c.last_by-else-offset-bytes.result = rw (c.get-else-offset-bytes.ensures, left.sums.spans) at c.last_by-else-offset-bytes.ensures in
    subst (λ (n : ℕ). IsLastBy c.args.offset c.args.self.now (n + c.last_by-else-offset-bytes.result)) (sym left.elements)
    (last_right c.in-Branch.left c.in-Branch.right c.args.self.now c.args.offset c.last_by-else-offset-bytes.result (rw c.in-Branch.is at c.self.view_is) left.own past more)

pub overflow_add-result : goal.overflow_add-result
overflow_add-result t c =
    let left : IsCount c.counts-low.result c.in-Branch.left = rw c.get.ensures at c.counts-low.ensures in
    let past : all_spans c.in-Branch.left.children ≤ c.args.offset = omega (arith, c.if-offset-bytes.false, left.sums.spans) in
    let more : IsLastBy (c.args.offset - all_spans c.in-Branch.left.children) c.in-Branch.right c.last_by-else-offset-bytes.result = rw (c.get-else-offset-bytes.ensures, left.sums.spans) at c.last_by-else-offset-bytes.ensures in
    let whole = last_right c.in-Branch.left c.in-Branch.right c.args.self.now c.args.offset c.last_by-else-offset-bytes.result (rw c.in-Branch.is at c.self.view_is) left.own past more in
    let all : Fits w32 c.counts.result.elements = search rules in
    let small : c.counts-low.result.elements + c.last_by-else-offset-bytes.result ≤ c.counts.result.elements = omega (arith, whole.there, left.elements, c.counts.ensures.elements) in
    record { fits = omega (arith, small, all.fits) }
