use Rattle.std.proofs.Common.{◌≡◌, ◌+◌, ◌-◌, ◌≤◌, ◌∙◌, arith, rules, Fits, w32, sym}
use Rattle.spec_trees.specs.Trees.{all_spans}
use Rattle.ts_node.specs.Held.{IsCount}
use Rattle.ts_node.specs.Places.{settled_by}
use Rattle.ts_node.proofs.SettledLemmas.{by_all, by_within, first_stops, first_goes_on}
use Rattle.ts_node.proofs.node.Run.+first_settled.Goals as goal

pub returns-then-are_settled_by : goal.returns-then-are_settled_by
returns-then-are_settled_by t c =
    let s = c.args.self.now in
    let on = c.are_settled_by.ensures.0 c.if-are_settled_by.true in
    c.counts-counts.ensures.elements ∙ sym (by_all c.args.room s.elements s.children (sym c.counts-counts.ensures.settled ∙ on.0) (omega (arith, on.1, c.counts-counts.ensures.reach)))

pub returns-then-first-middle : goal.returns-then-first-middle
returns-then-first-middle t c =
    let left : IsCount c.counts-low.result c.in-Branch.left = rw c.get.ensures at c.counts-low.ensures in
    let first : c.first_settled-first.result ≡ settled_by c.args.room c.in-Branch.left.elements c.in-Branch.left.children = rw c.get-in-Branch-2.ensures at c.first_settled-first.ensures in
    first ∙ first_stops c.in-Branch.left c.in-Branch.right c.args.self.now c.args.room (rw c.in-Branch.is at c.self.view_is) left.own (omega (arith, first, c.if-first-middle.true, left.elements))

pub returns-else-first-middle : goal.returns-else-first-middle
returns-else-first-middle t c =
    let left : IsCount c.counts-low.result c.in-Branch.left = rw c.get.ensures at c.counts-low.ensures in
    let first : c.first_settled-first.result ≡ settled_by c.args.room c.in-Branch.left.elements c.in-Branch.left.children = rw c.get-in-Branch-2.ensures at c.first_settled-first.ensures in
    let more : c.first_settled.result ≡ settled_by (c.args.room - all_spans c.in-Branch.left.children) c.in-Branch.right.elements c.in-Branch.right.children = rw (c.get-else-first-middle.ensures, c.saturating_sub-inner.ensures, left.sums.spans) at c.first_settled.ensures in
    let both : settled_by c.args.room c.in-Branch.left.elements c.in-Branch.left.children + settled_by (c.args.room - all_spans c.in-Branch.left.children) c.in-Branch.right.elements c.in-Branch.right.children ≡ settled_by c.args.room c.args.self.now.elements c.args.self.now.children =
    first_goes_on c.in-Branch.left c.in-Branch.right c.args.self.now c.args.room (rw c.in-Branch.is at c.self.view_is) left.own (omega (arith, first, c.if-first-middle.false, left.elements)) in
    omega (arith, both, first, more)

pub overflow_add-result : goal.overflow_add-result
overflow_add-result t c =
    let left : IsCount c.counts-low.result c.in-Branch.left = rw c.get.ensures at c.counts-low.ensures in
    let first : c.first_settled-first.result ≡ settled_by c.args.room c.in-Branch.left.elements c.in-Branch.left.children = rw c.get-in-Branch-2.ensures at c.first_settled-first.ensures in
    let more : c.first_settled.result ≡ settled_by (c.args.room - all_spans c.in-Branch.left.children) c.in-Branch.right.elements c.in-Branch.right.children = rw (c.get-else-first-middle.ensures, c.saturating_sub-inner.ensures, left.sums.spans) at c.first_settled.ensures in
    let both : settled_by c.args.room c.in-Branch.left.elements c.in-Branch.left.children + settled_by (c.args.room - all_spans c.in-Branch.left.children) c.in-Branch.right.elements c.in-Branch.right.children ≡ settled_by c.args.room c.args.self.now.elements c.args.self.now.children =
    first_goes_on c.in-Branch.left c.in-Branch.right c.args.self.now c.args.room (rw c.in-Branch.is at c.self.view_is) left.own (omega (arith, first, c.if-first-middle.false, left.elements)) in
    let all : Fits w32 c.counts-counts.result.elements = search rules in
    let small : c.first_settled-first.result + c.first_settled.result ≤ c.counts-counts.result.elements =
    omega (arith, both, first, more, by_within c.args.room c.args.self.now.elements c.args.self.now.children, c.counts-counts.ensures.elements) in
    record { fits = omega (arith, small, all.fits) }
