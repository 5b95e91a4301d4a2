use Rattle.std.proofs.Common.{◌≡◌, ◌+◌, ◌-◌, ◌<◌, ◌∙◌, ℕ, sym, ap, subst, true≢false, arith, List, length, take, drop, get_or, length-drop}
use Rattle.std.proofs.lemmas.List.{length-take-le, drop_all}
use Rattle.spec_trees.specs.declared.tree.Tree.{Tree}
use Rattle.spec_trees.specs.declared.tree.Element.{Element}
use Rattle.spec_trees.specs.Trees.{all_spans}
use Rattle.ts_node.specs.Places.{IsSettledBy, settled_by}
use Rattle.ts_node.proofs.ElementLemmas.{blank, count_next}
use Rattle.ts_node.proofs.SettledLemmas.{by_next, by_ends}
use Rattle.ts_node.proofs.settled.settled_among.Goals as goal

pub own-requires : goal.own-requires
own-requires c = omega (arith, c.loop-k.invariant.own, count_next c.args.elements.now c.loop-k.k (omega (arith, c.loop-k-test.true)))

pub spans-bytes-requires : goal.spans-bytes-requires
spans-bytes-requires c =
    let es = c.args.elements.now in
    let ks = c.args.children.now in
    let k = c.loop-k.k in
    let from = c.loop-k.from in
    let old = c.loop-k.invariant in
    let there : k < length es = omega (arith, c.loop-k-test.true) in
    let count = (get_or es k blank).children in
    let many : length (take count (drop from ks)) ≡ count = length-take-le count (drop from ks) (omega (arith, old.own, count_next es k there, length-drop from ks)) in
    let all : length c.own.result.now ≡ length (take count (drop from ks)) = ap (λ (ts : List Tree). length ts) c.own.ensures in
    omega (arith, all, many, c.requires.wide, old.own, count_next es k there)

pub returns-then-not-is_settled_by : goal.returns-then-not-is_settled_by
returns-then-not-is_settled_by c =
    let es = c.args.elements.now in
    let ks = c.args.children.now in
    let k = c.loop-k.k in
    let from = c.loop-k.from in
    let d : Element = get_or es k blank in
    let bytes : c.spans-bytes.result ≡ all_spans (take d.children (drop from ks)) = c.spans-bytes.ensures.spans ∙ ap all_spans c.own.ensures in
    let off : IsSettledBy d c.spans-bytes.result c.loop-k.left → ⊥ = λ h. true≢false (sym (c.is_settled_by.ensures.1 h) ∙ c.if-not-is_settled_by.true) in
    let none : settled_by c.loop-k.left (drop k es) (drop from ks) ≡ 0 =
    by_ends c.loop-k.left es ks k from (omega (arith, c.loop-k-test.true)) (λ h. off (subst (λ (n : ℕ). IsSettledBy d n c.loop-k.left) (sym bytes) h)) in
    omega (arith, c.loop-k.invariant.same, none)

pub loop-k-init : goal.loop-k-init
loop-k-init c = record {
  own = omega (arith, c.requires.own);
  same = omega arith;
}

pub loop-k-preserved : goal.loop-k-preserved
loop-k-preserved c =
    let es = c.args.elements.now in
    let ks = c.args.children.now in
    let k = c.loop-k.k in
    let from = c.loop-k.from in
    let left = c.loop-k.left in
    let old = c.loop-k.invariant in
    let there : k < length es = omega (arith, c.loop-k-test.true) in
    let d : Element = get_or es k blank in
    let n = d.children in
    let bytes : c.spans-bytes.result ≡ all_spans (take n (drop from ks)) = c.spans-bytes.ensures.spans ∙ ap all_spans c.own.ensures in
    let on : IsSettledBy d (all_spans (take n (drop from ks))) left =
    subst (λ (m : ℕ). IsSettledBy d m left) bytes (c.is_settled_by.ensures.0 c.if-not-is_settled_by.false) in
    let next = by_next left es ks k from there on in
    let rest : c.saturating_sub-left.result ≡ left - all_spans (take n (drop from ks)) = c.saturating_sub-left.ensures ∙ ap (λ (m : ℕ). left - m) bytes in
    let end : settled_by c.saturating_sub-left.result (drop (k + 1) es) (drop (from + n) ks) ≡ settled_by (left - all_spans (take n (drop from ks))) (drop (k + 1) es) (drop (from + n) ks) =
    ap (λ (m : ℕ). settled_by m (drop (k + 1) es) (drop (from + n) ks)) rest in
    record {
      own = omega (arith, old.own, count_next es k there);
      same = omega (arith, old.same, next, end);
    }

pub returns : goal.returns
returns c =
    let es = c.args.elements.now in
    let ks = c.args.children.now in
    let none : settled_by c.loop-k.left (drop c.loop-k.k es) (drop c.loop-k.from ks) ≡ 0 =
    ap (λ (xs : List Element). settled_by c.loop-k.left xs (drop c.loop-k.from ks)) (drop_all c.loop-k.k es (omega (arith, c.loop-k-test.false))) in
    omega (arith, c.loop-k.invariant.same, none, c.loop-k-test.false, c.loop-k.auto.k-end)
