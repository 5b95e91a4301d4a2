use Rattle.std.proofs.Common.{◌≡◌, ◌+◌, ◌++◌, ◌-◌, ◌≤◌, ◌∙◌, ap, arith, rules, Fits, w32, length, length-append, take}
use Rattle.spec_trees.specs.declared.tree.Stretch.{Stretch}
use Rattle.spec_trees.specs.Made.{children_count}
use Rattle.ts_node.specs.Held.{IsCount, joined_stretch}
use Rattle.ts_node.proofs.ElementLemmas.{count_within}
use Rattle.ts_node.proofs.PlaceLemmas.{count_left, count_right}
use Rattle.ts_node.proofs.node.Run.+children_before.Goals as goal

pub returns-then-k-middle : goal.returns-then-k-middle
returns-then-k-middle t c =
    let left : IsCount c.counts-low.result c.in-Branch.left = rw c.get.ensures at c.counts-low.ensures in
    let first : c.children_before.result ≡ children_count (take c.args.k c.in-Branch.left.elements) = rw c.get-then-k-middle.ensures at c.children_before.ensures in
    first ∙ count_left c.in-Branch.left c.in-Branch.right c.args.self.now c.args.k (rw c.in-Branch.is at c.self.view_is) (omega (arith, c.if-k-middle.true, left.elements))

pub returns-else-k-middle : goal.returns-else-k-middle
returns-else-k-middle t c =
    let left : IsCount c.counts-low.result c.in-Branch.left = rw c.get.ensures at c.counts-low.ensures in
    let more : c.children_before-else-k-middle.result ≡ children_count (take (c.args.k - length c.in-Branch.left.elements) c.in-Branch.right.elements) = rw (c.get-else-k-middle.ensures, left.elements) at c.children_before-else-k-middle.ensures in
    let both : children_count c.in-Branch.left.elements + children_count (take (c.args.k - length c.in-Branch.left.elements) c.in-Branch.right.elements) ≡ children_count (take c.args.k c.args.self.now.elements) =
    count_right c.in-Branch.left c.in-Branch.right c.args.self.now c.args.k (rw c.in-Branch.is at c.self.view_is) (omega (arith, c.if-k-middle.false, left.elements)) in
    omega (arith, both, more, left.children, left.own)

pub overflow_add-result : goal.overflow_add-result
overflow_add-result t c =
    let left : IsCount c.counts-low.result c.in-Branch.left = rw c.get.ensures at c.counts-low.ensures in
    let more : c.children_before-else-k-middle.result ≡ children_count (take (c.args.k - length c.in-Branch.left.elements) c.in-Branch.right.elements) = rw (c.get-else-k-middle.ensures, left.elements) at c.children_before-else-k-middle.ensures in
    let both : children_count c.in-Branch.left.elements + children_count (take (c.args.k - length c.in-Branch.left.elements) c.in-Branch.right.elements) ≡ children_count (take c.args.k c.args.self.now.elements) =
    count_right c.in-Branch.left c.in-Branch.right c.args.self.now c.args.k (rw c.in-Branch.is at c.self.view_is) (omega (arith, c.if-k-middle.false, left.elements)) in
    let all : Fits w32 c.counts.result.children = search rules in
    let small : c.counts-low.result.children + c.children_before-else-k-middle.result ≤ c.counts.result.children =
    omega (arith, both, more, left.children, left.own, count_within c.args.k c.args.self.now.elements, c.counts.ensures.children, c.counts.ensures.own) in
    record { fits = omega (arith, small, all.fits) }

pub children_before-requires-else-k-middle : goal.children_before-requires-else-k-middle
children_before-requires-else-k-middle t c =
    let left : IsCount c.counts-low.result c.in-Branch.left = rw c.get.ensures at c.counts-low.ensures in
    let whole : joined_stretch c.in-Branch.left c.in-Branch.right ≡ c.args.self.now = rw c.in-Branch.is at c.self.view_is in
    let many : length (c.in-Branch.left.elements ++ c.in-Branch.right.elements) ≡ length c.args.self.now.elements = ap (λ (s : Stretch). length s.elements) whole in
    let here : length c.get-else-k-middle.result.now.elements ≡ length c.in-Branch.right.elements = ap (λ (s : Stretch). length s.elements) c.get-else-k-middle.ensures in
    let both = length-append c.in-Branch.left.elements c.in-Branch.right.elements in
    (omega (arith, c.decreases, many, both, here, left.some), omega (arith, c.requires, many, both, here, left.elements))
