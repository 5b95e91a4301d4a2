use Rattle.std.proofs.Common.{◌≡◌, ◌+◌, ◌-◌, ◌<◌, ◌≤◌, arith, subst, sym, ℕ, length, Option, Some, None}
use Rattle.std.specs.Prelude.{MatchOption}
use Rattle.spec_trees.specs.declared.tree.Stretch.{Stretch}
use Rattle.spec_trees.specs.Trees.{all_spans}
use Rattle.spec_trees.specs.Made.{children_count}
use Rattle.ts_node.specs.Held.{IsCount, joined_stretch}
use Rattle.ts_node.specs.Places.{BeginsAt, NoneBeginsAt}
use Rattle.ts_node.proofs.ElementLemmas.{begins_left, begins_right, none_left, none_right}
use Rattle.ts_node.proofs.node.Run.+element_at.Goals as goal

found_left : (s t w : Stretch) (offset : ℕ) (found : Option ℕ) → joined_stretch s t ≡ w → children_count s.elements ≡ length s.children → offset < all_spans s.children
    → MatchOption found (NoneBeginsAt offset s) (λ e. BeginsAt offset s e) → MatchOption found (NoneBeginsAt offset w) (λ e. BeginsAt offset w e)
found_left s t w offset None is own less h = none_left s t w offset is own less h
found_left s t w offset (Some e) is own less h = begins_left s t w offset is own e h

pub returns-then-offset-bytes : goal.returns-then-offset-bytes
returns-then-offset-bytes t c =
    let left : IsCount c.counts-low.result c.in-Branch.left = rw c.get.ensures at c.counts-low.ensures in
    found_left c.in-Branch.left c.in-Branch.right c.args.self.now c.args.offset c.element_at.result (rw c.in-Branch.is at c.self.view_is) left.own
    (omega (arith, c.if-offset-bytes.true, left.sums.spans)) (rw c.get-then-offset-bytes.ensures at c.element_at.ensures)

pub returns-in-Some : goal.returns-in-Some
returns-in-Some t c =
    let left : IsCount c.counts-low.result c.in-Branch.left = rw c.get.ensures at c.counts-low.ensures in
    let past : all_spans c.in-Branch.left.children ≤ c.args.offset = omega (arith, c.if-offset-bytes.false, left.sums.spans) in
    let there : BeginsAt (c.args.offset - all_spans c.in-Branch.left.children) c.in-Branch.right c.in-Some.e = rw (c.get-else-offset-bytes.ensures, left.sums.spans) at c.in-Some.ensures in
    subst (λ (n : ℕ). BeginsAt c.args.offset c.args.self.now (n + c.in-Some.e)) (sym left.elements)
    (begins_right c.in-Branch.left c.in-Branch.right c.args.self.now c.args.offset (rw c.in-Branch.is at c.self.view_is) left.own past c.in-Some.e there)

pub returns-in-None : goal.returns-in-None
returns-in-None t c =
    let left : IsCount c.counts-low.result c.in-Branch.left = rw c.get.ensures at c.counts-low.ensures in
    let right : IsCount c.counts-in-Branch.result c.in-Branch.right = rw c.get-in-Branch.ensures at c.counts-in-Branch.ensures in
    let past : all_spans c.in-Branch.left.children ≤ c.args.offset = omega (arith, c.if-offset-bytes.false, left.sums.spans) in
    none_right c.in-Branch.left c.in-Branch.right c.args.self.now c.args.offset (rw c.in-Branch.is at c.self.view_is) left.own right.some past
    (rw (c.get-else-offset-bytes.ensures, left.sums.spans) at c.in-None.ensures)
