use Rattle.std.proofs.Common.{◌≡◌, ◌-◌, ◌≤◌, ◌∙◌, arith, subst, length, IfOk}
use Rattle.spec_trees.specs.declared.tree.Stretch.{Stretch}
use Rattle.spec_trees.specs.Made.{elements_from}
use Rattle.ts_node.specs.Held.{IsCount, joined_stretch}
use Rattle.ts_node.proofs.ElementLemmas.{rest_all, rest_left, rest_right}
use Rattle.ts_node.proofs.node.Run.+behind.Goals as goal

pub returns-then-k-eq0 : goal.returns-then-k-eq0
returns-then-k-eq0 t c =
    let e : c.args.run.now ≡ elements_from c.args.k c.args.run.now = rest_all c.args.run.now c.args.k c.if-k-eq0.true in
    subst (λ (s : Stretch). IfOk c.try_clone.result (λ new. new ≡ s)) e c.try_clone.ensures

pub returns-in_ok-low-in-Branch : goal.returns-in_ok-low-in-Branch
returns-in_ok-low-in-Branch t c =
    let u : c.get-2.result.now ≡ c.args.run.now = c.get-2.ensures in
    let v0 : joined_stretch c.in-Branch.left c.in-Branch.right ≡ c.get-2.result.now = rw c.in-Branch.is at c.behind-run.view_is in
    let v : joined_stretch c.in-Branch.left c.in-Branch.right ≡ c.args.run.now = v0 ∙ u in
    let g : c.get-in-Branch.result.now ≡ c.in-Branch.left = c.get-in-Branch.ensures in
    let q : IsCount c.counts-middle.result c.in-Branch.left = rw g at c.counts-middle.ensures in
    let low : c.in_ok-low-in-Branch.low ≡ elements_from c.args.k c.in-Branch.left = c.in_ok-low-in-Branch.ensures in
    let e : joined_stretch c.in_ok-low-in-Branch.low c.in-Branch.right ≡ elements_from c.args.k c.args.run.now = rest_left _ _ _ _ _ v q.own (omega (arith, c.if-k-middle.true, q.elements)) low in
    subst (λ (s : Stretch). IfOk c.join.result (λ new. new ≡ s)) e c.join.ensures

pub returns-else-k-middle : goal.returns-else-k-middle
returns-else-k-middle t c =
    let u : c.get-2.result.now ≡ c.args.run.now = c.get-2.ensures in
    let v0 : joined_stretch c.in-Branch.left c.in-Branch.right ≡ c.get-2.result.now = rw c.in-Branch.is at c.behind-run.view_is in
    let v : joined_stretch c.in-Branch.left c.in-Branch.right ≡ c.args.run.now = v0 ∙ u in
    let g : c.get-in-Branch.result.now ≡ c.in-Branch.left = c.get-in-Branch.ensures in
    let q : IsCount c.counts-middle.result c.in-Branch.left = rw g at c.counts-middle.ensures in
    let past : length c.in-Branch.left.elements ≤ c.args.k = omega (arith, c.if-k-middle.false, q.elements) in
    let high : IfOk c.behind-else-k-middle.result (λ new. new ≡ elements_from (c.args.k - length c.in-Branch.left.elements) c.in-Branch.right) = rw q.elements at c.behind-else-k-middle.ensures in
    subst (λ (s : Stretch). IfOk c.behind-else-k-middle.result (λ new. new ≡ s)) (rest_right _ _ _ _ v q.own past) high
