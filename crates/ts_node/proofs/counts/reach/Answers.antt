use Rattle.std.proofs.Common.{◌≡◌, ap, arith, List, [], length, take, drop, get_or, length-drop}
use Rattle.std.proofs.lemmas.List.{drop_all, length-take-le}
use Rattle.spec_trees.specs.declared.tree.Tree.{Tree}
use Rattle.spec_trees.specs.declared.tree.Element.{Element}
use Rattle.spec_trees.specs.Trees.{all_spans}
use Rattle.spec_trees.specs.Made.{reach_of}
use Rattle.ts_node.proofs.ElementLemmas.{blank, reach_next, count_next}
use Rattle.ts_node.proofs.counts.reach.Goals as goal

pub own-requires : goal.own-requires
own-requires c = omega (arith, c.loop-element.invariant.own, count_next c.args.elements.now c.loop-element.element-index c.loop-element-test.true)

pub spans-bytes-requires : goal.spans-bytes-requires
spans-bytes-requires c =
    let es = c.args.elements.now in
    let ks = c.args.children.now in
    let i = c.loop-element.element-index in
    let from = c.loop-element.from in
    let old = c.loop-element.invariant in
    let count = (get_or es i blank).children in
    let many : length (take count (drop from ks)) ≡ count = length-take-le count (drop from ks) (omega (arith, old.own, count_next es i c.loop-element-test.true, length-drop from ks)) in
    let all : length c.own.result.now ≡ length (take count (drop from ks)) = ap (λ (ts : List Tree). length ts) c.own.ensures in
    omega (arith, all, many, c.requires.wide, old.own, count_next es i c.loop-element-test.true)

pub loop-element-preserved : goal.loop-element-preserved
loop-element-preserved c =
    let es = c.args.elements.now in
    let ks = c.args.children.now in
    let i = c.loop-element.element-index in
    let from = c.loop-element.from in
    let old = c.loop-element.invariant in
    let count = (get_or es i blank).children in
    let next = count_next es i c.loop-element-test.true in
    let many : length (take count (drop from ks)) ≡ count = length-take-le count (drop from ks) (omega (arith, old.own, next, length-drop from ks)) in
    let all : length c.own.result.now ≡ length (take count (drop from ks)) = ap (λ (ts : List Tree). length ts) c.own.ensures in
    let bytes : all_spans c.own.result.now ≡ all_spans (take count (drop from ks)) = ap all_spans c.own.ensures in
    record {
      own = omega (arith, old.own, next);
      reach = omega (arith, old.reach, reach_next es ks i from c.loop-element-test.true, c.max-reach.ensures, c.end_of-end.ensures.sum, c.spans-bytes.ensures.spans, bytes);
      short = omega (arith, old.short, c.spans-bytes.ensures.short, all, many);
      near = omega (arith, old.near, old.short, c.max-reach.ensures, c.end_of-end.ensures.near);
    }

pub returns : goal.returns
returns c =
    let es = c.args.elements.now in
    let ks = c.args.children.now in
    let i = c.loop-element.element-index in
    let old = c.loop-element.invariant in
    let none : drop i es ≡ [] = drop_all i es (omega (arith, c.loop-element-test.false)) in
    let end : reach_of (drop i es) (drop c.loop-element.from ks) ≡ 0 = ap (λ (xs : List Element). reach_of xs (drop c.loop-element.from ks)) none in
    record {
      reach = omega (arith, old.reach, end, c.max.ensures);
      near = omega (arith, old.near, old.short, old.own, c.max.ensures);
    }
