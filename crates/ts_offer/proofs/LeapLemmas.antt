-- More children of a repetition are passed at once.
use Rattle.std.proofs.Common.{◌≡◌, ℕ, ◌+◌, ◌-◌, ◌<◌, ◌≤◌, ◌∙◌, refl, ap, arith, length, take, drop}
use Rattle.std.proofs.Math.Seq.{take-add}
use Rattle.spec_trees.specs.Trees.{children_of, elements_of, all_spans}
use Rattle.spec_trees.specs.Made.{AreCounted, bytes_before, children_count, stretch_in}
use Rattle.ts_node.specs.Places.{IsLastBy}
use Rattle.ts_node.proofs.ElementLemmas.{all_spans-append, count_within, some_counted}
use Rattle.ts_offer.specs.declared.way.Turn.{Turn}
use Rattle.ts_offer.specs.Ways.{rest_of, IsLater}

-- none are passed
pub same_turn : (t : Turn) (place : ℕ) → t.next ≤ length (children_of t.node.now) → t.place ≤ place → IsLater t place t
same_turn t place within ends =
    let n : t.next - t.next ≡ 0 = omega arith in
    let b : all_spans (take (t.next - t.next) (rest_of t)) ≡ 0 = ap (λ (k : ℕ). all_spans (take k (rest_of t))) n in
    record {
      node = refl;
      begins = refl;
      next = omega arith;
      within = within;
      bytes = omega (arith, b);
      ends = ends;
    }

-- those before the last element that begins by the place
pub last_turn : (t s : Turn) (at place k : ℕ) → 0 < length (elements_of t.node.now) → AreCounted (elements_of t.node.now) (children_of t.node.now) → t.place ≡ at + all_spans (take t.next (children_of t.node.now)) → t.place ≤ place
    → IsLastBy (place - at) (stretch_in t.node.now) k → s.node.now ≡ t.node.now → s.begins ≡ t.begins → s.next ≡ children_count (take k (elements_of t.node.now)) → t.next ≤ s.next → s.place ≡ at + bytes_before k (stretch_in t.node.now) → IsLater t place s
last_turn t s at place k some counted begun ends last node begins next later is =
    let es = elements_of t.node.now in
    let ks = children_of t.node.now in
    let own : children_count es ≡ length ks = some_counted es ks some counted in
    let m : s.next ≡ t.next + (s.next - t.next) = omega (arith, later) in
    let all : all_spans (take s.next ks) ≡ all_spans (take t.next ks) + all_spans (take (s.next - t.next) (rest_of t)) =
    ap (λ (n : ℕ). all_spans (take n ks)) m ∙ ap all_spans (take-add t.next (s.next - t.next) ks) ∙ all_spans-append (take t.next ks) (take (s.next - t.next) (drop t.next ks)) in
    let before : all_spans (take s.next ks) ≡ bytes_before k (stretch_in t.node.now) = ap (λ (n : ℕ). all_spans (take n ks)) next in
    record {
      node = node;
      begins = begins;
      next = later;
      within = omega (arith, next, own, count_within k es);
      bytes = omega (arith, is, before, all, begun);
      ends = omega (arith, is, last.begins, begun, ends);
    }
