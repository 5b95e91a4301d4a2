use Rattle.std.proofs.Common.{arith}
use Rattle.ts_node.specs.Held.{IsCount}
use Rattle.ts_node.proofs.FillLemmas.{fill_left, fill_right}
use Rattle.ts_node.proofs.node.Run.+fill.Goals as goal

pub returns-then-k-middle : goal.returns-then-k-middle
returns-then-k-middle t c =
    let left : IsCount c.counts-middle.result c.in-Branch.left = rw c.get.ensures at c.counts-middle.ensures in
    fill_left _ _ _ _ _ (rw c.in-Branch.is at c.self.view_is) left.own (omega (arith, c.if-k-middle.true, left.children)) (rw c.get-then-k-middle.ensures at c.fill.ensures)

pub returns-else-k-middle : goal.returns-else-k-middle
returns-else-k-middle t c =
    let left : IsCount c.counts-middle.result c.in-Branch.left = rw c.get.ensures at c.counts-middle.ensures in
    fill_right _ _ _ _ _ (rw c.in-Branch.is at c.self.view_is) left.own (omega (arith, c.if-k-middle.false, left.children)) (rw (c.get-else-k-middle.ensures, left.children) at c.fill-else-k-middle.ensures)
