use Rattle.std.proofs.Common.{◌≡◌, ◌+◌, ◌-◌, ◌<◌, ◌≤◌, ◌∙◌, ℕ, refl, sym, ap, subst, arith, List, length, take, drop, get_or, length-drop}
use Rattle.std.proofs.lemmas.List.{length-take-le}
use Rattle.spec_trees.specs.declared.tree.Tree.{Tree}
use Rattle.spec_trees.specs.Trees.{all_spans}
use Rattle.spec_trees.specs.Made.{bytes_before, children_count}
use Rattle.ts_node.specs.Held.{stretch}
use Rattle.ts_node.specs.Places.{IsLastBy}
use Rattle.ts_node.proofs.ElementLemmas.{blank, count_next, bytes_next}
use Rattle.ts_node.proofs.PlaceLemmas.{begun, last_before, last_of_all}
use Rattle.ts_node.proofs.places.last_among.Goals as goal

pub own-requires : goal.own-requires
own-requires c = omega (arith, c.loop-k.invariant.own, count_next c.args.elements.now c.loop-k.k (omega (arith, c.loop-k-test.true)))

pub spans-bytes-requires : goal.spans-bytes-requires
spans-bytes-requires c =
    let es = c.args.elements.now in
    let ks = c.args.children.now in
    let k = c.loop-k.k in
    let from = c.loop-k.from in
    let old = c.loop-k.invariant in
    let there : k < length es = omega (arith, c.loop-k-test.true) in
    let count = (get_or es k blank).children in
    let many : length (take count (drop from ks)) ≡ count = length-take-le count (drop from ks) (omega (arith, old.own, count_next es k there, length-drop from ks)) in
    let all : length c.own.result.now ≡ length (take count (drop from ks)) = ap (λ (ts : List Tree). length ts) c.own.ensures in
    omega (arith, all, many, c.requires.wide, old.own, count_next es k there)

pub loop-k-init : goal.loop-k-init
loop-k-init c = record {
  from = refl;
  own = omega (arith, c.requires.own);
  at = refl;
  short = omega arith;
  before = λ some. absurd (omega (arith, some));
}

pub loop-k-preserved : goal.loop-k-preserved
loop-k-preserved c =
    let es = c.args.elements.now in
    let ks = c.args.children.now in
    let k = c.loop-k.k in
    let from = c.loop-k.from in
    let old = c.loop-k.invariant in
    let there : k < length es = omega (arith, c.loop-k-test.true) in
    let count = (get_or es k blank).children in
    let next = count_next es k there in
    let many : length (take count (drop from ks)) ≡ count = length-take-le count (drop from ks) (omega (arith, old.own, next, length-drop from ks)) in
    let all : length c.own.result.now ≡ length (take count (drop from ks)) = ap (λ (ts : List Tree). length ts) c.own.ensures in
    let bytes : all_spans c.own.result.now ≡ all_spans (take count (drop from ks)) = ap all_spans c.own.ensures in
    let before = bytes_next es ks k from there old.from in
    let start : c.loop-k.at ≡ all_spans (take from ks) = old.at ∙ sym (ap (λ (n : ℕ). all_spans (take n ks)) old.from) in
    let end : c.loop-k.at + c.spans-bytes.result ≡ all_spans (take (children_count (take (k + 1) es)) ks) = omega (arith, start, before.1, bytes, c.spans-bytes.ensures.spans) in
    let i : (k + 1) - 1 ≡ k = omega arith in
    let j : bytes_before ((k + 1) - 1) (stretch es ks) ≡ bytes_before k (stretch es ks) = ap (λ (n : ℕ). bytes_before n (stretch es ks)) i in
    let here : bytes_before ((k + 1) - 1) (stretch es ks) ≤ c.args.offset = omega (arith, j, old.at, c.if-at-offset.false) in
    record {
      from = sym before.0;
      own = omega (arith, old.own, next);
      at = end;
      short = omega (arith, old.short, c.spans-bytes.ensures.short, all, many);
      before = λ some. here;
    }

pub overflow_sub-result : goal.overflow_sub-result
overflow_sub-result c =
    omega (arith, begun (stretch c.args.elements.now c.args.children.now) c.loop-k.k c.args.offset (omega (arith, c.loop-k.invariant.at, c.if-at-offset.true)))

pub returns-then-at-offset : goal.returns-then-at-offset
returns-then-at-offset c =
    let s = stretch c.args.elements.now c.args.children.now in
    let past : c.args.offset < bytes_before c.loop-k.k s = omega (arith, c.loop-k.invariant.at, c.if-at-offset.true) in
    let some : 0 < c.loop-k.k = begun s c.loop-k.k c.args.offset past in
    last_before s c.args.offset c.loop-k.k (omega (arith, c.loop-k-test.true)) some (c.loop-k.invariant.before some) past

pub returns : goal.returns
returns c =
    let es = c.args.elements.now in
    let s = stretch es c.args.children.now in
    let end : c.loop-k.k ≡ length es = omega (arith, c.loop-k-test.false, c.loop-k.auto.k-end) in
    let some : 0 < c.loop-k.k = omega (arith, end, c.requires.some) in
    subst (λ (n : ℕ). IsLastBy c.args.offset s (n - 1)) end (last_of_all s c.args.offset c.loop-k.k end some (c.loop-k.invariant.before some))
