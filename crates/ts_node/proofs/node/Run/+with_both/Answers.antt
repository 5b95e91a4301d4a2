use Rattle.std.proofs.Common.{◌≡◌, ◌-◌, ◌<◌, ◌≤◌, ◌++◌, ◌∙◌, ap, arith, rules, Fits, w32, subst, length, length-append, IfOk}
use Rattle.spec_trees.specs.declared.tree.Stretch.{Stretch}
use Rattle.ts_node.specs.Held.{IsCount, joined_stretch, changed, loosened_stretch}
use Rattle.ts_node.proofs.RunLemmas.{length-loosened_at, both_left, both_right}
use Rattle.ts_node.proofs.node.Run.+with_both.Goals as goal

pub branch-new-requires-in-Left-clause-fits : goal.branch-new-requires-in-Left-clause-fits
branch-new-requires-in-Left-clause-fits t c =
    let u : c.get-2.result.now ≡ c.args.run.now = c.get-2.ensures in
    let v0 : joined_stretch c.in-Branch.left c.in-Branch.right ≡ c.get-2.result.now = rw c.in-Branch.is at c.behind-run.view_is in
    let v : joined_stretch c.in-Branch.left c.in-Branch.right ≡ c.args.run.now = v0 ∙ u in
    let all : IsCount c.counts.result c.args.run.now = rw c.get.ensures at c.counts.ensures in
    let few : Fits w32 c.counts.result.elements = search rules in
    let sum : length (c.in-Branch.left.elements ++ c.in-Branch.right.elements) ≡ length c.args.run.now.elements = ap (λ (s : Stretch). length s.elements) v in
    let low : c.in_ok-new-in-Left.new ≡ loosened_stretch (changed c.in-Branch.left c.args.k c.args.child) c.args.e = c.in_ok-new-in-Left.ensures in
    let high : c.in_ok-try_clone-in-Left.field-0 ≡ c.in-Branch.right = c.in_ok-try_clone-in-Left.ensures in
    let many : length c.in_ok-new-in-Left.new.elements ≡ length c.in-Branch.left.elements = ap (λ (s : Stretch). length s.elements) low ∙ length-loosened_at c.args.e c.in-Branch.left.elements in
    let more : length c.in_ok-try_clone-in-Left.field-0.elements ≡ length c.in-Branch.right.elements = ap (λ (s : Stretch). length s.elements) high in
    omega (arith, many, more, sum, length-append c.in-Branch.left.elements c.in-Branch.right.elements, all.elements, few.fits)

pub with_both-requires : goal.with_both-requires
with_both-requires t c =
    let u : c.get-2.result.now ≡ c.args.run.now = c.get-2.ensures in
    let v0 : joined_stretch c.in-Branch.left c.in-Branch.right ≡ c.get-2.result.now = rw c.in-Branch.is at c.behind-run.view_is in
    let v : joined_stretch c.in-Branch.left c.in-Branch.right ≡ c.args.run.now = v0 ∙ u in
    let q : IsCount c.counts-low.result c.in-Branch.left = rw c.get-in-Branch.ensures at c.counts-low.ensures in
    let r : IsCount c.counts-in-Branch.result c.in-Branch.right = rw c.get-in-Branch-2.ensures at c.counts-in-Branch.ensures in
    let es : length (c.in-Branch.left.elements ++ c.in-Branch.right.elements) ≡ length c.args.run.now.elements = ap (λ (s : Stretch). length s.elements) v in
    let side = rw c.in-Left.is at c.side_of.ensures in (
      omega (arith, c.decreases, es, length-append c.in-Branch.left.elements c.in-Branch.right.elements, r.some),
      (omega (arith, side.0, q.children), omega (arith, side.1, q.elements)),
    )

pub with_both-requires-in-Right : goal.with_both-requires-in-Right
with_both-requires-in-Right t c =
    let u : c.get-2.result.now ≡ c.args.run.now = c.get-2.ensures in
    let v0 : joined_stretch c.in-Branch.left c.in-Branch.right ≡ c.get-2.result.now = rw c.in-Branch.is at c.behind-run.view_is in
    let v : joined_stretch c.in-Branch.left c.in-Branch.right ≡ c.args.run.now = v0 ∙ u in
    let q : IsCount c.counts-low.result c.in-Branch.left = rw c.get-in-Branch.ensures at c.counts-low.ensures in
    let es : length (c.in-Branch.left.elements ++ c.in-Branch.right.elements) ≡ length c.args.run.now.elements = ap (λ (s : Stretch). length s.elements) v in
    let ks : length (c.in-Branch.left.children ++ c.in-Branch.right.children) ≡ length c.args.run.now.children = ap (λ (s : Stretch). length s.children) v in
    let more = length-append c.in-Branch.left.elements c.in-Branch.right.elements in
    let side = rw c.in-Right.is at c.side_of.ensures in (
      omega (arith, c.decreases, es, more, q.some),
      (
        omega (arith, side.0, q.children, ks, length-append c.in-Branch.left.children c.in-Branch.right.children, c.requires.child),
        omega (arith, side.1, q.elements, es, more, c.requires.element),
      ),
    )

pub branch-branch-requires-clause-fits : goal.branch-branch-requires-clause-fits
branch-branch-requires-clause-fits t c =
    let u : c.get-2.result.now ≡ c.args.run.now = c.get-2.ensures in
    let v0 : joined_stretch c.in-Branch.left c.in-Branch.right ≡ c.get-2.result.now = rw c.in-Branch.is at c.behind-run.view_is in
    let v : joined_stretch c.in-Branch.left c.in-Branch.right ≡ c.args.run.now = v0 ∙ u in
    let all : IsCount c.counts.result c.args.run.now = rw c.get.ensures at c.counts.ensures in
    let few : Fits w32 c.counts.result.elements = search rules in
    let sum : length (c.in-Branch.left.elements ++ c.in-Branch.right.elements) ≡ length c.args.run.now.elements = ap (λ (s : Stretch). length s.elements) v in
    let j = c.args.k - c.counts-low.result.children in
    let d = c.args.e - c.counts-low.result.elements in
    let low : c.in_ok-try_clone-in-Right.field-0 ≡ c.in-Branch.left = c.in_ok-try_clone-in-Right.ensures in
    let high : c.in_ok-new-in-Right.new ≡ loosened_stretch (changed c.in-Branch.right j c.args.child) d = c.in_ok-new-in-Right.ensures in
    let many : length c.in_ok-try_clone-in-Right.field-0.elements ≡ length c.in-Branch.left.elements = ap (λ (s : Stretch). length s.elements) low in
    let more : length c.in_ok-new-in-Right.new.elements ≡ length c.in-Branch.right.elements = ap (λ (s : Stretch). length s.elements) high ∙ length-loosened_at d c.in-Branch.right.elements in
    omega (arith, many, more, sum, length-append c.in-Branch.left.elements c.in-Branch.right.elements, all.elements, few.fits)

pub returns-in_ok-try_clone-in-Left : goal.returns-in_ok-try_clone-in-Left
returns-in_ok-try_clone-in-Left t c =
    let u : c.get-2.result.now ≡ c.args.run.now = c.get-2.ensures in
    let v0 : joined_stretch c.in-Branch.left c.in-Branch.right ≡ c.get-2.result.now = rw c.in-Branch.is at c.behind-run.view_is in
    let v : joined_stretch c.in-Branch.left c.in-Branch.right ≡ c.args.run.now = v0 ∙ u in
    let g : c.get-in-Branch.result.now ≡ c.in-Branch.left = c.get-in-Branch.ensures in
    let q : IsCount c.counts-low.result c.in-Branch.left = rw g at c.counts-low.ensures in
    let side = rw c.in-Left.is at c.side_of.ensures in
    let low : c.in_ok-new-in-Left.new ≡ loosened_stretch (changed c.in-Branch.left c.args.k c.args.child) c.args.e = c.in_ok-new-in-Left.ensures in
    let high : c.in_ok-try_clone-in-Left.field-0 ≡ c.in-Branch.right = c.in_ok-try_clone-in-Left.ensures in
    let child : c.args.k < length c.in-Branch.left.children = omega (arith, side.0, q.children) in
    let element : c.args.e < length c.in-Branch.left.elements = omega (arith, side.1, q.elements) in
    let e : joined_stretch c.in_ok-new-in-Left.new c.in_ok-try_clone-in-Left.field-0 ≡ loosened_stretch (changed c.args.run.now c.args.k c.args.child) c.args.e =
    ap (λ (s : Stretch). joined_stretch s c.in_ok-try_clone-in-Left.field-0) low
    ∙ ap (λ (s : Stretch). joined_stretch (loosened_stretch (changed c.in-Branch.left c.args.k c.args.child) c.args.e) s) high
    ∙ both_left c.in-Branch.left c.in-Branch.right c.args.run.now c.args.k c.args.child c.args.e v child element in
    subst (λ (s : Stretch). IfOk c.branch-new-in-Left.result (λ new. new ≡ s)) e c.branch-new-in-Left.ensures

pub returns-in_ok-try_clone-in-Right : goal.returns-in_ok-try_clone-in-Right
returns-in_ok-try_clone-in-Right t c =
    let u : c.get-2.result.now ≡ c.args.run.now = c.get-2.ensures in
    let v0 : joined_stretch c.in-Branch.left c.in-Branch.right ≡ c.get-2.result.now = rw c.in-Branch.is at c.behind-run.view_is in
    let v : joined_stretch c.in-Branch.left c.in-Branch.right ≡ c.args.run.now = v0 ∙ u in
    let g : c.get-in-Branch.result.now ≡ c.in-Branch.left = c.get-in-Branch.ensures in
    let q : IsCount c.counts-low.result c.in-Branch.left = rw g at c.counts-low.ensures in
    let side = rw c.in-Right.is at c.side_of.ensures in
    let low : c.in_ok-try_clone-in-Right.field-0 ≡ c.in-Branch.left = c.in_ok-try_clone-in-Right.ensures in
    let high0 : c.in_ok-new-in-Right.new ≡ loosened_stretch (changed c.in-Branch.right (c.args.k - length c.in-Branch.left.children) c.args.child) (c.args.e - c.counts-low.result.elements) = rw q.children at c.in_ok-new-in-Right.ensures in
    let high : c.in_ok-new-in-Right.new ≡ loosened_stretch (changed c.in-Branch.right (c.args.k - length c.in-Branch.left.children) c.args.child) (c.args.e - length c.in-Branch.left.elements) = rw q.elements at high0 in
    let child : length c.in-Branch.left.children ≤ c.args.k = omega (arith, side.0, q.children) in
    let element : length c.in-Branch.left.elements ≤ c.args.e = omega (arith, side.1, q.elements) in
    let e : joined_stretch c.in_ok-try_clone-in-Right.field-0 c.in_ok-new-in-Right.new ≡ loosened_stretch (changed c.args.run.now c.args.k c.args.child) c.args.e =
    ap (λ (s : Stretch). joined_stretch s c.in_ok-new-in-Right.new) low
    ∙ ap (λ (s : Stretch). joined_stretch c.in-Branch.left s) high
    ∙ both_right c.in-Branch.left c.in-Branch.right c.args.run.now c.args.k c.args.child c.args.e v child element in
    subst (λ (s : Stretch). IfOk c.branch-branch.result (λ new. new ≡ s)) e c.branch-branch.ensures
