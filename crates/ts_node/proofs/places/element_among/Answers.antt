use Rattle.std.proofs.Common.{◌≡◌, ◌+◌, ◌<◌, ◌∙◌, ℕ, refl, sym, ap, arith, List, length, take, drop, get_or, length-drop}
use Rattle.std.proofs.lemmas.List.{length-take-le}
use Rattle.spec_trees.specs.declared.tree.Tree.{Tree}
use Rattle.spec_trees.specs.Trees.{all_spans}
use Rattle.spec_trees.specs.Made.{bytes_before, children_count}
use Rattle.ts_node.specs.Held.{stretch}
use Rattle.ts_node.proofs.ElementLemmas.{blank, count_next, bytes_next, nowhere_next}
use Rattle.ts_node.proofs.places.element_among.Goals as goal

pub own-requires : goal.own-requires
own-requires c = omega (arith, c.loop-k.invariant.own, count_next c.args.elements.now c.loop-k.k (omega (arith, c.loop-k-test.true)))

pub spans-bytes-requires : goal.spans-bytes-requires
spans-bytes-requires c =
    let es = c.args.elements.now in
    let ks = c.args.children.now in
    let k = c.loop-k.k in
    let from = c.loop-k.from in
    let old = c.loop-k.invariant in
    let there : k < length es = omega (arith, c.loop-k-test.true) in
    let count = (get_or es k blank).children in
    let many : length (take count (drop from ks)) ≡ count = length-take-le count (drop from ks) (omega (arith, old.own, count_next es k there, length-drop from ks)) in
    let all : length c.own.result.now ≡ length (take count (drop from ks)) = ap (λ (ts : List Tree). length ts) c.own.ensures in
    omega (arith, all, many, c.requires.wide, old.own, count_next es k there)

pub loop-k-init : goal.loop-k-init
loop-k-init c = record {
  from = refl;
  own = omega (arith, c.requires.own);
  at = refl;
  short = omega arith;
  nowhere = λ e below is. absurd (omega (arith, below));
}

pub loop-k-preserved : goal.loop-k-preserved
loop-k-preserved c =
    let es = c.args.elements.now in
    let ks = c.args.children.now in
    let k = c.loop-k.k in
    let from = c.loop-k.from in
    let old = c.loop-k.invariant in
    let there : k < length es = omega (arith, c.loop-k-test.true) in
    let count = (get_or es k blank).children in
    let next = count_next es k there in
    let many : length (take count (drop from ks)) ≡ count = length-take-le count (drop from ks) (omega (arith, old.own, next, length-drop from ks)) in
    let all : length c.own.result.now ≡ length (take count (drop from ks)) = ap (λ (ts : List Tree). length ts) c.own.ensures in
    let bytes : all_spans c.own.result.now ≡ all_spans (take count (drop from ks)) = ap all_spans c.own.ensures in
    let before = bytes_next es ks k from there old.from in
    let start : c.loop-k.at ≡ all_spans (take from ks) = old.at ∙ sym (ap (λ (n : ℕ). all_spans (take n ks)) old.from) in
    let end : c.loop-k.at + c.spans-bytes.result ≡ all_spans (take (children_count (take (k + 1) es)) ks) = omega (arith, start, before.1, bytes, c.spans-bytes.ensures.spans) in
    record {
      from = sym before.0;
      own = omega (arith, old.own, next);
      at = end;
      short = omega (arith, old.short, c.spans-bytes.ensures.short, all, many);
      nowhere = nowhere_next (stretch es ks) c.args.offset k old.nowhere
          (λ (e : bytes_before k (stretch es ks) ≡ c.args.offset). omega (arith, c.if-at-offset.false, old.at, e));
    }

pub returns-then-at-offset : goal.returns-then-at-offset
returns-then-at-offset c = (omega (arith, c.loop-k-test.true), sym c.loop-k.invariant.at ∙ c.if-at-offset.true)

pub returns : goal.returns
returns c = λ e b. c.loop-k.invariant.nowhere e (omega (arith, b.0, c.loop-k-test.false)) b.1
