use Rattle.std.proofs.Common.{◌≡◌, ◌+◌, ◌≤◌, ◌∙◌, arith, rules, Fits, w32, sym, true, false, length}
use Rattle.spec_trees.specs.Made.{settled_first}
use Rattle.ts_node.specs.Held.{IsCount, all_settled}
use Rattle.ts_node.proofs.ElementLemmas.{first_stops, first_goes_on, settled_within}
use Rattle.ts_node.proofs.node.Run.+settled_first.Goals as goal

pub returns-then-whole : goal.returns-then-whole
returns-then-whole t c =
    let left : IsCount c.counts-low.result c.in-Branch.left = rw c.get.ensures at c.counts-low.ensures in
    let on : all_settled c.in-Branch.left.elements ≡ true = sym left.settled ∙ c.if-whole.true in
    let more : c.settled_first.result ≡ settled_first c.in-Branch.right.elements = rw c.get-then-whole.ensures at c.settled_first.ensures in
    let both : length c.in-Branch.left.elements + settled_first c.in-Branch.right.elements ≡ settled_first c.args.self.now.elements = first_goes_on c.in-Branch.left c.in-Branch.right c.args.self.now (rw c.in-Branch.is at c.self.view_is) on in
    omega (arith, both, more, left.elements)

pub returns-else-whole : goal.returns-else-whole
returns-else-whole t c =
    let left : IsCount c.counts-low.result c.in-Branch.left = rw c.get.ensures at c.counts-low.ensures in
    let off : all_settled c.in-Branch.left.elements ≡ false = sym left.settled ∙ c.if-whole.false in
    let first : c.settled_first-else-whole.result ≡ settled_first c.in-Branch.left.elements = rw c.get-else-whole.ensures at c.settled_first-else-whole.ensures in
    first ∙ first_stops c.in-Branch.left c.in-Branch.right c.args.self.now (rw c.in-Branch.is at c.self.view_is) off

pub overflow_add-result : goal.overflow_add-result
overflow_add-result t c =
    let left : IsCount c.counts-low.result c.in-Branch.left = rw c.get.ensures at c.counts-low.ensures in
    let on : all_settled c.in-Branch.left.elements ≡ true = sym left.settled ∙ c.if-whole.true in
    let more : c.settled_first.result ≡ settled_first c.in-Branch.right.elements = rw c.get-then-whole.ensures at c.settled_first.ensures in
    let both : length c.in-Branch.left.elements + settled_first c.in-Branch.right.elements ≡ settled_first c.args.self.now.elements = first_goes_on c.in-Branch.left c.in-Branch.right c.args.self.now (rw c.in-Branch.is at c.self.view_is) on in
    let all : Fits w32 c.counts.result.elements = search rules in
    let small : c.counts-low.result.elements + c.settled_first.result ≤ c.counts.result.elements = omega (arith, both, more, left.elements, settled_within c.args.self.now.elements, c.counts.ensures.elements) in
    record { fits = omega (arith, small, all.fits) }
