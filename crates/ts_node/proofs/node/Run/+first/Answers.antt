use Rattle.std.proofs.Common.{◌≡◌, ◌-◌, ◌≤◌, ◌∙◌, arith, subst, length, IfOk}
use Rattle.spec_trees.specs.declared.tree.Stretch.{Stretch}
use Rattle.spec_trees.specs.Made.{first_elements}
use Rattle.ts_node.specs.Held.{IsCount, joined_stretch}
use Rattle.ts_node.proofs.ElementLemmas.{first_all, cut_left, cut_right}
use Rattle.ts_node.proofs.node.Run.+first.Goals as goal

pub returns-then-k-all : goal.returns-then-k-all
returns-then-k-all t c =
    let q : IsCount c.counts-all.result c.args.run.now = rw c.get.ensures at c.counts-all.ensures in
    let e : c.args.run.now ≡ first_elements c.args.k c.args.run.now = first_all c.args.run.now c.args.k q.own (omega (arith, c.if-k-all.true, q.elements)) in
    subst (λ (s : Stretch). IfOk c.try_clone.result (λ new. new ≡ s)) e c.try_clone.ensures

pub returns-then-k-middle : goal.returns-then-k-middle
returns-then-k-middle t c =
    let u : c.get-2.result.now ≡ c.args.run.now = c.get-2.ensures in
    let v0 : joined_stretch c.in-Branch.left c.in-Branch.right ≡ c.get-2.result.now = rw c.in-Branch.is at c.behind-run.view_is in
    let v : joined_stretch c.in-Branch.left c.in-Branch.right ≡ c.args.run.now = v0 ∙ u in
    let g : c.get-in-Branch.result.now ≡ c.in-Branch.left = c.get-in-Branch.ensures in
    let q : IsCount c.counts-middle.result c.in-Branch.left = rw g at c.counts-middle.ensures in
    let e : first_elements c.args.k c.in-Branch.left ≡ first_elements c.args.k c.args.run.now = cut_left _ _ _ _ v q.own (omega (arith, c.if-k-middle.true, q.elements)) in
    subst (λ (s : Stretch). IfOk c.first.result (λ new. new ≡ s)) e c.first.ensures

pub returns-in_ok-high-in-Branch : goal.returns-in_ok-high-in-Branch
returns-in_ok-high-in-Branch t c =
    let u : c.get-2.result.now ≡ c.args.run.now = c.get-2.ensures in
    let v0 : joined_stretch c.in-Branch.left c.in-Branch.right ≡ c.get-2.result.now = rw c.in-Branch.is at c.behind-run.view_is in
    let v : joined_stretch c.in-Branch.left c.in-Branch.right ≡ c.args.run.now = v0 ∙ u in
    let g : c.get-in-Branch.result.now ≡ c.in-Branch.left = c.get-in-Branch.ensures in
    let q : IsCount c.counts-middle.result c.in-Branch.left = rw g at c.counts-middle.ensures in
    let high : c.in_ok-high-in-Branch.high ≡ first_elements (c.args.k - length c.in-Branch.left.elements) c.in-Branch.right = rw q.elements at c.in_ok-high-in-Branch.ensures in
    let past : length c.in-Branch.left.elements ≤ c.args.k = omega (arith, c.if-k-middle.false, q.elements) in
    let e : joined_stretch c.in-Branch.left c.in_ok-high-in-Branch.high ≡ first_elements c.args.k c.args.run.now = cut_right _ _ _ _ _ v q.own past high in
    subst (λ (s : Stretch). IfOk c.join.result (λ new. new ≡ s)) e c.join.ensures
