-- How many children and bytes stand before an element, of a stretch of two parts.
use Rattle.std.proofs.Common.{◌≡◌, ℕ, zero, suc, ◌+◌, ◌-◌, ◌≤◌, ◌<◌, ◌⊎◌, inl, inr, List, [], ◌∷◌, ◌++◌, length, take, refl, sym, ap, ◌∙◌, arith, length-append}
use Rattle.std.proofs.lemmas.List.{take-append-le, take-take}
use Rattle.std.proofs.lemmas.Bool.{cases_lt}
use Rattle.std.proofs.Math.Seq.{take-append-add}
use Rattle.spec_trees.specs.declared.tree.Tree.{Tree}
use Rattle.spec_trees.specs.declared.tree.Element.{Element}
use Rattle.spec_trees.specs.declared.tree.Stretch.{Stretch}
use Rattle.spec_trees.specs.Trees.{elements_of, all_spans}
use Rattle.spec_trees.specs.Made.{children_count, bytes_before}
use Rattle.ts_node.specs.Held.{joined_stretch}
use Rattle.ts_node.specs.Places.{IsLastBy}
use Rattle.ts_node.proofs.ElementLemmas.{all_spans-split, children_count_append, count_within, before_left, before_right}

-- ---- children before an element

pub count_left : (s t w : Stretch) (k : ℕ) → joined_stretch s t ≡ w → k ≤ length s.elements → children_count (take k s.elements) ≡ children_count (take k w.elements)
count_left s t w k e h =
    ap children_count (sym (take-append-le k s.elements t.elements h)) ∙ ap (λ (v : Stretch). children_count (take k v.elements)) e

pub count_right : (s t w : Stretch) (k : ℕ) → joined_stretch s t ≡ w → length s.elements ≤ k → children_count s.elements + children_count (take (k - length s.elements) t.elements) ≡ children_count (take k w.elements)
count_right s t w k e h =
    let j : ℕ = k - length s.elements in
    let i : k ≡ length s.elements + j = omega (arith, h) in
    let a : take k (s.elements ++ t.elements) ≡ s.elements ++ take j t.elements = ap (λ (n : ℕ). take n (s.elements ++ t.elements)) i ∙ take-append-add s.elements t.elements j in
    sym (ap children_count a ∙ children_count_append s.elements (take j t.elements)) ∙ ap (λ (v : Stretch). children_count (take k v.elements)) e

pub none_before : (t : Tree) (k : ℕ) → length (elements_of t) ≡ 0 → children_count (take k (elements_of t)) ≡ 0
none_before t k h = by (elements_of t) k h
  where
    by : (es : List Element) (n : ℕ) → length es ≡ 0 → children_count (take n es) ≡ 0
    by [] zero none = refl
    by [] (suc n) none = refl
    by (e ∷ es) n none = absurd (omega (arith, none))

-- ---- bytes before an element, and before a later one

spans_rise : (a b : ℕ) (ks : List Tree) → a ≤ b → all_spans (take a ks) ≤ all_spans (take b ks)
spans_rise a b ks h =
    let e : all_spans (take a (take b ks)) ≡ all_spans (take a ks) = ap all_spans (take-take a b ks h) in
    omega (arith, e, all_spans-split a (take b ks))

pub count_rises : (j k : ℕ) (es : List Element) → j ≤ k → children_count (take j es) ≤ children_count (take k es)
count_rises j k es h =
    let e : children_count (take j (take k es)) ≡ children_count (take j es) = ap children_count (take-take j k es h) in
    omega (arith, e, count_within j (take k es))

pub bytes_rise : (s : Stretch) (j k : ℕ) → j ≤ k → bytes_before j s ≤ bytes_before k s
bytes_rise s j k h = spans_rise (children_count (take j s.elements)) (children_count (take k s.elements)) s.children (count_rises j k s.elements h)

-- before the first there are none
pub begun : (s : Stretch) (k offset : ℕ) → offset < bytes_before k s → 0 < k
begun s zero offset h = absurd (omega (arith, h))
begun s (suc k) offset h = omega arith

-- ---- the last element that begins by a place

pub last_left : (s t w : Stretch) (offset e : ℕ) → joined_stretch s t ≡ w → children_count s.elements ≡ length s.children → offset < all_spans s.children → IsLastBy offset s e → IsLastBy offset w e
last_left s t w offset e is own less l =
    let many : length (s.elements ++ t.elements) ≡ length w.elements = ap (λ (v : Stretch). length v.elements) is in
    record {
      there = omega (arith, l.there, many, length-append s.elements t.elements);
      begins = omega (arith, l.begins, before_left s t w e is own (omega (arith, l.there)));
      last = λ k after there. by k after (cases_lt k (length s.elements));
    }
  where
    by : (k : ℕ) → e < k → (k < length s.elements) ⊎ (length s.elements ≤ k) → offset < bytes_before k w
    by k after (inl below) = omega (arith, l.last k after below, before_left s t w k is own (omega (arith, below)))
    by k after (inr past) = omega (arith, before_right s t w k is own past, less)

pub last_right : (s t w : Stretch) (offset e : ℕ) → joined_stretch s t ≡ w → children_count s.elements ≡ length s.children → all_spans s.children ≤ offset → IsLastBy (offset - all_spans s.children) t e → IsLastBy offset w (length s.elements + e)
last_right s t w offset e is own beyond l =
    let many : length (s.elements ++ t.elements) ≡ length w.elements = ap (λ (v : Stretch). length v.elements) is in
    let k : ℕ = length s.elements + e in
    let i : k - length s.elements ≡ e = omega arith in
    let at : bytes_before (k - length s.elements) t ≡ bytes_before e t = ap (λ (n : ℕ). bytes_before n t) i in
    record {
      there = omega (arith, l.there, many, length-append s.elements t.elements);
      begins = omega (arith, l.begins, at, before_right s t w k is own (omega arith), beyond);
      last = λ j after there. by j (omega (arith, after)) (omega (arith, there, many, length-append s.elements t.elements, after)) (omega (arith, after));
    }
  where
    by : (j : ℕ) → e < j - length s.elements → j - length s.elements < length t.elements → length s.elements ≤ j → offset < bytes_before j w
    by j after there past = omega (arith, l.last (j - length s.elements) after there, before_right s t w j is own past)

-- the element before the first that begins behind the place
pub last_before : (s : Stretch) (offset k : ℕ) → k ≤ length s.elements → 0 < k → bytes_before (k - 1) s ≤ offset → offset < bytes_before k s → IsLastBy offset s (k - 1)
last_before s offset k within some begins past = record {
  there = omega (arith, within, some);
  begins = begins;
  last = λ j after there. omega (arith, past, bytes_rise s k j (omega (arith, after, some)));
}

-- the last of all
pub last_of_all : (s : Stretch) (offset k : ℕ) → k ≡ length s.elements → 0 < k → bytes_before (k - 1) s ≤ offset → IsLastBy offset s (k - 1)
last_of_all s offset k end some begins = record {
  there = omega (arith, end, some);
  begins = begins;
  last = λ j after there. absurd (omega (arith, after, there, end, some));
}
