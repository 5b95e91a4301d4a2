use Rattle.std.proofs.Common.{◌≡◌, ◌-◌, ◌<◌, ◌≤◌, ◌∙◌, ap, arith, subst, length, IfOk}
use Rattle.spec_trees.specs.declared.tree.Stretch.{Stretch}
use Rattle.ts_node.specs.Held.{IsCount, joined_stretch, changed}
use Rattle.ts_node.proofs.RunLemmas.{changed_left, changed_right}
use Rattle.ts_node.proofs.node.Run.+with_child.Goals as goal

pub returns-in_ok-try_clone-in-Branch : goal.returns-in_ok-try_clone-in-Branch
returns-in_ok-try_clone-in-Branch t c =
    let u : c.get-2.result.now ≡ c.args.run.now = c.get-2.ensures in
    let v0 : joined_stretch c.in-Branch.left c.in-Branch.right ≡ c.get-2.result.now = rw c.in-Branch.is at c.behind-run.view_is in
    let v : joined_stretch c.in-Branch.left c.in-Branch.right ≡ c.args.run.now = v0 ∙ u in
    let g : c.get-in-Branch.result.now ≡ c.in-Branch.left = c.get-in-Branch.ensures in
    let q : IsCount c.counts-middle.result c.in-Branch.left = rw g at c.counts-middle.ensures in
    let low : c.in_ok-low-in-Branch.low ≡ changed c.in-Branch.left c.args.k c.args.child = c.in_ok-low-in-Branch.ensures in
    let high : c.in_ok-try_clone-in-Branch.field-0 ≡ c.in-Branch.right = c.in_ok-try_clone-in-Branch.ensures in
    let below : c.args.k < length c.in-Branch.left.children = omega (arith, c.if-k-middle.true, q.children) in
    let e : joined_stretch c.in_ok-low-in-Branch.low c.in_ok-try_clone-in-Branch.field-0 ≡ changed c.args.run.now c.args.k c.args.child =
    ap (λ (s : Stretch). joined_stretch s c.in_ok-try_clone-in-Branch.field-0) low
    ∙ ap (λ (s : Stretch). joined_stretch (changed c.in-Branch.left c.args.k c.args.child) s) high
    ∙ changed_left c.in-Branch.left c.in-Branch.right c.args.run.now c.args.k c.args.child v below in
    subst (λ (s : Stretch). IfOk c.branch-low-then-k-middle.result (λ new. new ≡ s)) e c.branch-low-then-k-middle.ensures

pub returns-in_ok-try_clone-in-Branch-2 : goal.returns-in_ok-try_clone-in-Branch-2
returns-in_ok-try_clone-in-Branch-2 t c =
    let u : c.get-2.result.now ≡ c.args.run.now = c.get-2.ensures in
    let v0 : joined_stretch c.in-Branch.left c.in-Branch.right ≡ c.get-2.result.now = rw c.in-Branch.is at c.behind-run.view_is in
    let v : joined_stretch c.in-Branch.left c.in-Branch.right ≡ c.args.run.now = v0 ∙ u in
    let g : c.get-in-Branch.result.now ≡ c.in-Branch.left = c.get-in-Branch.ensures in
    let q : IsCount c.counts-middle.result c.in-Branch.left = rw g at c.counts-middle.ensures in
    let low : c.in_ok-try_clone-in-Branch-2.field-0 ≡ c.in-Branch.left = c.in_ok-try_clone-in-Branch-2.ensures in
    let high : c.in_ok-high-in-Branch.high ≡ changed c.in-Branch.right (c.args.k - length c.in-Branch.left.children) c.args.child = rw q.children at c.in_ok-high-in-Branch.ensures in
    let past : length c.in-Branch.left.children ≤ c.args.k = omega (arith, c.if-k-middle.false, q.children) in
    let e : joined_stretch c.in_ok-try_clone-in-Branch-2.field-0 c.in_ok-high-in-Branch.high ≡ changed c.args.run.now c.args.k c.args.child =
    ap (λ (s : Stretch). joined_stretch s c.in_ok-high-in-Branch.high) low
    ∙ ap (λ (s : Stretch). joined_stretch c.in-Branch.left s) high
    ∙ changed_right c.in-Branch.left c.in-Branch.right c.args.run.now c.args.k c.args.child v past in
    subst (λ (s : Stretch). IfOk c.branch-branch.result (λ new. new ≡ s)) e c.branch-branch.ensures
