use Rattle.std.proofs.Common.{◌≡◌, ℕ, suc, ◌+◌, ◌∙◌, ap, sym, arith, List, ◌∷◌, length, drop, get_or, drop-cons}
use Rattle.spec_trees.specs.declared.tree.Element.{Element}
use Rattle.spec_trees.specs.declared.tree.Stretch.{Stretch}
use Rattle.spec_trees.specs.Made.{loosened_at, loosened}
use Rattle.ts_node.specs.Held.{loosened_stretch}
use Rattle.ts_node.proofs.RunLemmas.{length-loosened_at}
use Rattle.ts_node.proofs.change.run_loosened.Goals as goal

pub loop-k-preserved : goal.loop-k-preserved
loop-k-preserved c =
    let ks = c.args.loose.now in
    let i = c.loop-k.k-index in
    let k : ℕ = get_or ks i 0 in
    let old = c.loop-k.invariant in
    let new : c.in_ok-run-2.run' ≡ loosened_stretch c.loop-k.run k = c.in_ok-run-2.ensures in
    let es : c.in_ok-run-2.run'.elements ≡ loosened_at k c.loop-k.run.elements = ap (λ (s : Stretch). s.elements) new in
    let q : suc i ≡ i + 1 = omega arith in
    let next : drop i ks ≡ k ∷ drop (i + 1) ks = drop-cons ks i 0 c.loop-k-test.true ∙ ap (λ (j : ℕ). k ∷ drop j ks) q in
    record {
      children = ap (λ (s : Stretch). s.children) new ∙ old.children;
      same = ap (λ (xs : List Element). length xs) es ∙ length-loosened_at k c.loop-k.run.elements ∙ old.same;
      rest = ap (λ (xs : List Element). loosened (drop (i + 1) ks) xs) es
          ∙ sym (ap (λ (js : List ℕ). loosened js c.loop-k.run.elements) next)
          ∙ old.rest;
    }
