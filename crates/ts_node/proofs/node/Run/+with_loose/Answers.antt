use Rattle.std.proofs.Common.{◌≡◌, ◌-◌, ◌<◌, ◌≤◌, ◌++◌, ◌∙◌, ap, arith, rules, Fits, w32, subst, length, length-append, IfOk}
use Rattle.spec_trees.specs.declared.tree.Stretch.{Stretch}
use Rattle.ts_node.specs.Held.{IsCount, joined_stretch, loosened_stretch}
use Rattle.ts_node.proofs.RunLemmas.{length-loosened_at, loosened_left, loosened_right}
use Rattle.ts_node.proofs.node.Run.+with_loose.Goals as goal

pub returns-in_ok-try_clone-in-Branch : goal.returns-in_ok-try_clone-in-Branch
returns-in_ok-try_clone-in-Branch t c =
    let u : c.get-2.result.now ≡ c.args.run.now = c.get-2.ensures in
    let v0 : joined_stretch c.in-Branch.left c.in-Branch.right ≡ c.get-2.result.now = rw c.in-Branch.is at c.behind-run.view_is in
    let v : joined_stretch c.in-Branch.left c.in-Branch.right ≡ c.args.run.now = v0 ∙ u in
    let g : c.get-in-Branch.result.now ≡ c.in-Branch.left = c.get-in-Branch.ensures in
    let q : IsCount c.counts-middle.result c.in-Branch.left = rw g at c.counts-middle.ensures in
    let low : c.in_ok-low-in-Branch.low ≡ loosened_stretch c.in-Branch.left c.args.k = c.in_ok-low-in-Branch.ensures in
    let high : c.in_ok-try_clone-in-Branch.field-0 ≡ c.in-Branch.right = c.in_ok-try_clone-in-Branch.ensures in
    let below : c.args.k < length c.in-Branch.left.elements = omega (arith, c.if-k-middle.true, q.elements) in
    let e : joined_stretch c.in_ok-low-in-Branch.low c.in_ok-try_clone-in-Branch.field-0 ≡ loosened_stretch c.args.run.now c.args.k =
    ap (λ (s : Stretch). joined_stretch s c.in_ok-try_clone-in-Branch.field-0) low
    ∙ ap (λ (s : Stretch). joined_stretch (loosened_stretch c.in-Branch.left c.args.k) s) high
    ∙ loosened_left c.in-Branch.left c.in-Branch.right c.args.run.now c.args.k v below in
    subst (λ (s : Stretch). IfOk c.branch-low-then-k-middle.result (λ new. new ≡ s)) e c.branch-low-then-k-middle.ensures

pub returns-in_ok-try_clone-in-Branch-2 : goal.returns-in_ok-try_clone-in-Branch-2
returns-in_ok-try_clone-in-Branch-2 t c =
    let u : c.get-2.result.now ≡ c.args.run.now = c.get-2.ensures in
    let v0 : joined_stretch c.in-Branch.left c.in-Branch.right ≡ c.get-2.result.now = rw c.in-Branch.is at c.behind-run.view_is in
    let v : joined_stretch c.in-Branch.left c.in-Branch.right ≡ c.args.run.now = v0 ∙ u in
    let g : c.get-in-Branch.result.now ≡ c.in-Branch.left = c.get-in-Branch.ensures in
    let q : IsCount c.counts-middle.result c.in-Branch.left = rw g at c.counts-middle.ensures in
    let low : c.in_ok-try_clone-in-Branch-2.field-0 ≡ c.in-Branch.left = c.in_ok-try_clone-in-Branch-2.ensures in
    let high : c.in_ok-high-in-Branch.high ≡ loosened_stretch c.in-Branch.right (c.args.k - length c.in-Branch.left.elements) = rw q.elements at c.in_ok-high-in-Branch.ensures in
    let past : length c.in-Branch.left.elements ≤ c.args.k = omega (arith, c.if-k-middle.false, q.elements) in
    let e : joined_stretch c.in_ok-try_clone-in-Branch-2.field-0 c.in_ok-high-in-Branch.high ≡ loosened_stretch c.args.run.now c.args.k =
    ap (λ (s : Stretch). joined_stretch s c.in_ok-high-in-Branch.high) low
    ∙ ap (λ (s : Stretch). joined_stretch c.in-Branch.left s) high
    ∙ loosened_right c.in-Branch.left c.in-Branch.right c.args.run.now c.args.k v past in
    subst (λ (s : Stretch). IfOk c.branch-branch.result (λ new. new ≡ s)) e c.branch-branch.ensures

pub branch-low-requires-then-k-middle-clause-fits : goal.branch-low-requires-then-k-middle-clause-fits
branch-low-requires-then-k-middle-clause-fits t c =
    let u : c.get-2.result.now ≡ c.args.run.now = c.get-2.ensures in
    let v0 : joined_stretch c.in-Branch.left c.in-Branch.right ≡ c.get-2.result.now = rw c.in-Branch.is at c.behind-run.view_is in
    let v : joined_stretch c.in-Branch.left c.in-Branch.right ≡ c.args.run.now = v0 ∙ u in
    let all : IsCount c.counts.result c.args.run.now = rw c.get.ensures at c.counts.ensures in
    let few : Fits w32 c.counts.result.elements = search rules in
    let sum : length (c.in-Branch.left.elements ++ c.in-Branch.right.elements) ≡ length c.args.run.now.elements = ap (λ (s : Stretch). length s.elements) v in
    let low : c.in_ok-low-in-Branch.low ≡ loosened_stretch c.in-Branch.left c.args.k = c.in_ok-low-in-Branch.ensures in
    let high : c.in_ok-try_clone-in-Branch.field-0 ≡ c.in-Branch.right = c.in_ok-try_clone-in-Branch.ensures in
    let many : length c.in_ok-low-in-Branch.low.elements ≡ length c.in-Branch.left.elements = ap (λ (s : Stretch). length s.elements) low ∙ length-loosened_at c.args.k c.in-Branch.left.elements in
    let more : length c.in_ok-try_clone-in-Branch.field-0.elements ≡ length c.in-Branch.right.elements = ap (λ (s : Stretch). length s.elements) high in
    omega (arith, many, more, sum, length-append c.in-Branch.left.elements c.in-Branch.right.elements, all.elements, few.fits)

pub branch-branch-requires-clause-fits : goal.branch-branch-requires-clause-fits
branch-branch-requires-clause-fits t c =
    let u : c.get-2.result.now ≡ c.args.run.now = c.get-2.ensures in
    let v0 : joined_stretch c.in-Branch.left c.in-Branch.right ≡ c.get-2.result.now = rw c.in-Branch.is at c.behind-run.view_is in
    let v : joined_stretch c.in-Branch.left c.in-Branch.right ≡ c.args.run.now = v0 ∙ u in
    let all : IsCount c.counts.result c.args.run.now = rw c.get.ensures at c.counts.ensures in
    let few : Fits w32 c.counts.result.elements = search rules in
    let sum : length (c.in-Branch.left.elements ++ c.in-Branch.right.elements) ≡ length c.args.run.now.elements = ap (λ (s : Stretch). length s.elements) v in
    let j = c.args.k - c.counts-middle.result.elements in
    let low : c.in_ok-try_clone-in-Branch-2.field-0 ≡ c.in-Branch.left = c.in_ok-try_clone-in-Branch-2.ensures in
    let high : c.in_ok-high-in-Branch.high ≡ loosened_stretch c.in-Branch.right j = c.in_ok-high-in-Branch.ensures in
    let many : length c.in_ok-try_clone-in-Branch-2.field-0.elements ≡ length c.in-Branch.left.elements = ap (λ (s : Stretch). length s.elements) low in
    let more : length c.in_ok-high-in-Branch.high.elements ≡ length c.in-Branch.right.elements = ap (λ (s : Stretch). length s.elements) high ∙ length-loosened_at j c.in-Branch.right.elements in
    omega (arith, many, more, sum, length-append c.in-Branch.left.elements c.in-Branch.right.elements, all.elements, few.fits)
