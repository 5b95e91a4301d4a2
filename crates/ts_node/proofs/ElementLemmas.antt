-- What is so of elements over their children, one stretch after another, and of parts of a stretch.
use Rattle.std.proofs.Common.{◌≡◌, ℕ, zero, suc, ◌+◌, ◌-◌, ◌≤◌, ◌<◌, max, List, [], ◌∷◌, ◌++◌, length, take, drop, Bool, true, false, true≢false, ◌&&◌, ◌⊎◌, inl, inr, get_or, refl, sym, ap, subst, ◌∙◌, arith, length-drop, length-append}
use Rattle.std.specs.Prelude.{All, if◌then◌else◌}
use Rattle.std.proofs.lemmas.List.{take-append-le, drop-append-le, take-append-drop, take_all, length-take-le, drop-take, take-take, drop-drop}
use Rattle.std.proofs.lemmas.Bool.{cases_lt}
use Rattle.std.proofs.Math.Seq.{take-append-add, drop-append-add, take-add, drop-cons}
use Rattle.std.proofs.lemmas.List.Elements.{All-head, All-tail}
use Rattle.std.proofs.lemmas.Int.{ints}
use lib.IntN.{ℤ, pos, ◌+ℤ◌}
use Rattle.spec_trees.specs.declared.tree.Tree.{Tree}
use Rattle.spec_trees.specs.declared.tree.Element.{Element}
use Rattle.spec_trees.specs.declared.tree.Stretch.{Stretch}
use Rattle.spec_trees.specs.Trees.{elements_of, children_of, all_spans, all_totals, all_values}
use Rattle.spec_trees.specs.Made.{children_count, reach_of, first_elements, elements_from, bytes_before, settled_first, stretch_in, IsElementWell, AreElementsWell, AreCounted, IsTotalOf}
use Rattle.ts_node.specs.Held.{joined_stretch, stretch, all_settled}
use Rattle.ts_node.specs.Places.{BeginsAt, NoneBeginsAt}

-- ---- sums over lists one after another

pub all_spans-append : (xs ys : List Tree) → all_spans (xs ++ ys) ≡ all_spans xs + all_spans ys
all_spans-append [] ys = omega arith
all_spans-append (x ∷ xs) ys = omega (arith, all_spans-append xs ys)

pub all_spans-split : (n : ℕ) (ks : List Tree) → all_spans ks ≡ all_spans (take n ks) + all_spans (drop n ks)
all_spans-split n ks = ap all_spans (sym (take-append-drop n ks)) ∙ all_spans-append (take n ks) (drop n ks)

pub children_count_append : (xs ys : List Element) → children_count (xs ++ ys) ≡ children_count xs + children_count ys
children_count_append [] ys = omega arith
children_count_append (x ∷ xs) ys = omega (arith, children_count_append xs ys)

pub children_count_split : (k : ℕ) (es : List Element) → children_count es ≡ children_count (take k es) + children_count (drop k es)
children_count_split k es = ap children_count (sym (take-append-drop k es)) ∙ children_count_append (take k es) (drop k es)

-- ---- how far elements reach

pub reach-append : (es fs : List Element) (ks more : List Tree) → children_count es ≡ length ks → reach_of (es ++ fs) (ks ++ more) ≡ max (reach_of es ks) (all_spans ks + reach_of fs more)
reach-append [] fs [] more own = omega arith
reach-append [] fs (k ∷ ks) more own = absurd (omega (arith, own))
reach-append (e ∷ es) fs ks more own =
    let n = e.children in
    let t : all_spans (take n (ks ++ more)) ≡ all_spans (take n ks) = ap all_spans (take-append-le n ks more (omega (arith, own))) in
    let d : reach_of (es ++ fs) (drop n (ks ++ more)) ≡ reach_of (es ++ fs) (drop n ks ++ more) = ap (reach_of (es ++ fs)) (drop-append-le n ks more (omega (arith, own))) in
    omega (arith, t, d, all_spans-split n ks, reach-append es fs (drop n ks) more (omega (arith, own, length-drop n ks)))

pub reach_one : (e : Element) (ks : List Tree) → e.children ≡ length ks → reach_of (e ∷ []) ks ≡ max e.extent (all_spans ks)
reach_one e ks own =
    let t : all_spans (take e.children ks) ≡ all_spans ks = ap all_spans (take_all e.children ks (omega (arith, own))) in
    omega (arith, t)

-- ---- settled elements over their children

pub well-append : (es fs : List Element) (ks more : List Tree) → children_count es ≡ length ks → AreElementsWell es ks → AreElementsWell fs more → AreElementsWell (es ++ fs) (ks ++ more)
well-append [] fs [] more own a b = b
well-append [] fs (k ∷ ks) more own a b = absurd (omega (arith, own))
well-append (e ∷ es) fs ks more own a b =
    let n = e.children in (
      (λ s. subst (λ (x : List Tree). IsElementWell e x) (sym (take-append-le n ks more (omega (arith, own)))) (a.0 s)),
      subst (λ (x : List Tree). AreElementsWell (es ++ fs) x) (sym (drop-append-le n ks more (omega (arith, own))))
          (well-append es fs (drop n ks) more (omega (arith, own, length-drop n ks)) a.1 b),
    )

pub well_one : (e : Element) (ks : List Tree) → e.children ≡ length ks → IsElementWell e ks → AreElementsWell (e ∷ []) ks
well_one e ks own w = (
  (λ s. subst (λ (x : List Tree). IsElementWell e x) (sym (take_all e.children ks (omega (arith, own)))) w),
  tt,
)

pub well-first : (k : ℕ) (es : List Element) (ks : List Tree) → AreElementsWell es ks → AreElementsWell (take k es) (take (children_count (take k es)) ks)
well-first zero es ks w = tt
well-first (suc k) [] ks w = tt
well-first (suc k) (e ∷ es) ks w =
    let n = e.children in
    let c = children_count (take k es) in (
      (λ s. subst (λ (x : List Tree). IsElementWell e x) (sym (take-take n (n + c) ks (omega arith))) (w.0 s)),
      subst (λ (x : List Tree). AreElementsWell (take k es) x) (sym (drop-take n c ks)) (well-first k es (drop n ks) w.1),
    )

pub well-behind : (k : ℕ) (es : List Element) (ks : List Tree) → AreElementsWell es ks → AreElementsWell (drop k es) (drop (children_count (take k es)) ks)
well-behind zero es ks w = w
well-behind (suc k) [] ks w = tt
well-behind (suc k) (e ∷ es) ks w =
    subst (λ (x : List Tree). AreElementsWell (drop k es) x) (drop-drop (children_count (take k es)) e.children ks)
    (well-behind k es (drop e.children ks) w.1)

-- settled elements examined more than their bytes
pub past_reach : (es : List Element) (ks : List Tree) → 0 < length es → children_count es ≡ length ks → All (λ e. e.settled ≡ true) es → AreElementsWell es ks → all_spans ks < reach_of es ks
past_reach [] ks some own settled w = absurd (omega (arith, some))
past_reach (e ∷ []) ks some own settled w =
    let own' : e.children ≡ length ks = omega (arith, own) in
    let a : all_spans (take e.children ks) < e.extent = (w.0 (All-head (λ (d : Element). d.settled ≡ true) e [] settled)).past in
    let t : all_spans (take e.children ks) ≡ all_spans ks = ap all_spans (take_all e.children ks (omega (arith, own'))) in
    omega (arith, a, t, reach_one e ks own')
past_reach (e ∷ d ∷ es) ks some own settled w =
    let n = e.children in
    omega (arith, all_spans-split n ks, past_reach (d ∷ es) (drop n ks) (omega arith) (omega (arith, own, length-drop n ks)) (All-tail (λ (x : Element). x.settled ≡ true) e (d ∷ es) settled) w.1)

-- ---- children and totals of elements

pub counted_by : (es : List Element) (ks : List Tree) → children_count es ≡ length ks → AreCounted es ks
counted_by [] ks h = tt
counted_by (e ∷ es) ks h = h

pub some_counted : (es : List Element) (ks : List Tree) → 0 < length es → AreCounted es ks → children_count es ≡ length ks
some_counted [] ks some h = absurd (omega (arith, some))
some_counted (e ∷ es) ks some h = h

pub total_by : (total : ℤ) (es : List Element) (ks : List Tree) → total ≡ all_values es +ℤ all_totals ks → IsTotalOf total es ks
total_by total [] ks h = tt
total_by total (e ∷ es) ks h = h

pub some_total : (total : ℤ) (es : List Element) (ks : List Tree) → 0 < length es → IsTotalOf total es ks → total ≡ all_values es +ℤ all_totals ks
some_total total [] ks some h = absurd (omega (arith, some))
some_total total (e ∷ es) ks some h = h

pub all_totals-append : (xs ys : List Tree) → all_totals (xs ++ ys) ≡ all_totals xs +ℤ all_totals ys
all_totals-append [] ys = omega (arith, ints)
all_totals-append (x ∷ xs) ys = omega (arith, ints, all_totals-append xs ys)

pub all_values-append : (xs ys : List Element) → all_values (xs ++ ys) ≡ all_values xs +ℤ all_values ys
all_values-append [] ys = omega (arith, ints)
all_values-append (x ∷ xs) ys = omega (arith, ints, all_values-append xs ys)

-- ---- a loop over elements

-- an element that stands where there is none
abbrev pub blank : Element
blank = record { alternative = 0; children = 0; dynamic = pos 0; extent = 0; settled = false }

-- the element of a number, and those behind it
pub next_elements : (es : List Element) (i : ℕ) → i < length es → drop i es ≡ get_or es i blank ∷ drop (i + 1) es
next_elements es i there =
    let n : suc i ≡ i + 1 = omega arith in
    drop-cons es i blank there ∙ ap (λ (k : ℕ). get_or es i blank ∷ drop k es) n

pub reach_next : (es : List Element) (ks : List Tree) (i from : ℕ) → i < length es → reach_of (drop i es) (drop from ks) ≡ max (get_or es i blank).extent (all_spans (take (get_or es i blank).children (drop from ks)) + reach_of (drop (i + 1) es) (drop (from + (get_or es i blank).children) ks))
reach_next es ks i from there =
    let d : Element = get_or es i blank in
    ap (λ (xs : List Element). reach_of xs (drop from ks)) (next_elements es i there)
    ∙ ap (λ (ys : List Tree). max d.extent (all_spans (take d.children (drop from ks)) + reach_of (drop (i + 1) es) ys)) (drop-drop d.children from ks)

pub count_next : (es : List Element) (i : ℕ) → i < length es → children_count (drop i es) ≡ (get_or es i blank).children + children_count (drop (i + 1) es)
count_next es i there = ap children_count (next_elements es i there)

pub values_next : (es : List Element) (i : ℕ) → i < length es → all_values (drop i es) ≡ (get_or es i blank).dynamic +ℤ all_values (drop (i + 1) es)
values_next es i there = ap all_values (next_elements es i there)

-- the bytes before an element, and before the next
pub bytes_next : (es : List Element) (ks : List Tree) (i from : ℕ) → i < length es → from ≡ children_count (take i es)
    → (children_count (take (i + 1) es) ≡ from + (get_or es i blank).children) × (all_spans (take (children_count (take (i + 1) es)) ks) ≡ all_spans (take from ks) + all_spans (take (get_or es i blank).children (drop from ks)))
bytes_next es ks i from there before =
    let d : Element = get_or es i blank in
    let a = children_count_split i es in
    let b = children_count_split (i + 1) es in
    let c = count_next es i there in
    let count : children_count (take (i + 1) es) ≡ from + d.children = omega (arith, a, b, c, before) in (
      count,
      ap (λ (n : ℕ). all_spans (take n ks)) count
          ∙ ap all_spans (take-add from d.children ks)
          ∙ all_spans-append (take from ks) (take d.children (drop from ks)),
    )

-- ---- cuts

-- a cut in the first of two stretches
pub first_left : (s t : Stretch) (k : ℕ) → children_count s.elements ≡ length s.children → k ≤ length s.elements → first_elements k (joined_stretch s t) ≡ first_elements k s
first_left s t k own h =
    let e : take k (s.elements ++ t.elements) ≡ take k s.elements = take-append-le k s.elements t.elements h in
    let n : children_count (take k s.elements) ≤ length s.children = omega (arith, own, children_count_split k s.elements) in
    ap (λ (x : List Element). stretch x (take (children_count x) (s.children ++ t.children))) e
    ∙ ap (stretch (take k s.elements)) (take-append-le (children_count (take k s.elements)) s.children t.children n)

-- a cut in the second of them
pub first_right : (s t : Stretch) (k : ℕ) → children_count s.elements ≡ length s.children → length s.elements ≤ k → first_elements k (joined_stretch s t) ≡ joined_stretch s (first_elements (k - length s.elements) t)
first_right s t k own h =
    let j = k - length s.elements in
    let i : k ≡ length s.elements + j = omega (arith, h) in
    let e : take k (s.elements ++ t.elements) ≡ s.elements ++ take j t.elements = ap (λ (n : ℕ). take n (s.elements ++ t.elements)) i ∙ take-append-add s.elements t.elements j in
    let n : children_count (s.elements ++ take j t.elements) ≡ length s.children + children_count (take j t.elements) = omega (arith, own, children_count_append s.elements (take j t.elements)) in
    ap (λ (x : List Element). stretch x (take (children_count x) (s.children ++ t.children))) e
    ∙ ap (λ (m : ℕ). stretch (s.elements ++ take j t.elements) (take m (s.children ++ t.children))) n
    ∙ ap (stretch (s.elements ++ take j t.elements)) (take-append-add s.children t.children (children_count (take j t.elements)))

pub behind_left : (s t : Stretch) (k : ℕ) → children_count s.elements ≡ length s.children → k ≤ length s.elements → elements_from k (joined_stretch s t) ≡ joined_stretch (elements_from k s) t
behind_left s t k own h =
    let e : take k (s.elements ++ t.elements) ≡ take k s.elements = take-append-le k s.elements t.elements h in
    let n : children_count (take k s.elements) ≤ length s.children = omega (arith, own, children_count_split k s.elements) in
    ap (λ (x : List Element). stretch (drop k (s.elements ++ t.elements)) (drop (children_count x) (s.children ++ t.children))) e
    ∙ ap (λ (x : List Element). stretch x (drop (children_count (take k s.elements)) (s.children ++ t.children))) (drop-append-le k s.elements t.elements h)
    ∙ ap (stretch (drop k s.elements ++ t.elements)) (drop-append-le (children_count (take k s.elements)) s.children t.children n)

pub behind_right : (s t : Stretch) (k : ℕ) → children_count s.elements ≡ length s.children → length s.elements ≤ k → elements_from k (joined_stretch s t) ≡ elements_from (k - length s.elements) t
behind_right s t k own h =
    let j = k - length s.elements in
    let i : k ≡ length s.elements + j = omega (arith, h) in
    let e : take k (s.elements ++ t.elements) ≡ s.elements ++ take j t.elements = ap (λ (n : ℕ). take n (s.elements ++ t.elements)) i ∙ take-append-add s.elements t.elements j in
    let d : drop k (s.elements ++ t.elements) ≡ drop j t.elements = ap (λ (n : ℕ). drop n (s.elements ++ t.elements)) i ∙ drop-append-add s.elements t.elements j in
    let n : children_count (s.elements ++ take j t.elements) ≡ length s.children + children_count (take j t.elements) = omega (arith, own, children_count_append s.elements (take j t.elements)) in
    ap (λ (x : List Element). stretch (drop k (s.elements ++ t.elements)) (drop (children_count x) (s.children ++ t.children))) e
    ∙ ap (λ (m : ℕ). stretch (drop k (s.elements ++ t.elements)) (drop m (s.children ++ t.children))) n
    ∙ ap (λ (x : List Element). stretch x (drop (length s.children + children_count (take j t.elements)) (s.children ++ t.children))) d
    ∙ ap (stretch (drop j t.elements)) (drop-append-add s.children t.children (children_count (take j t.elements)))

-- the same, of a run of two parts
pub cut_left : (s t w : Stretch) (k : ℕ) → joined_stretch s t ≡ w → children_count s.elements ≡ length s.children → k ≤ length s.elements → first_elements k s ≡ first_elements k w
cut_left s t w k e own h = sym (first_left s t k own h) ∙ ap (λ (v : Stretch). first_elements k v) e

pub cut_right : (s t u w : Stretch) (k : ℕ) → joined_stretch s t ≡ w → children_count s.elements ≡ length s.children → length s.elements ≤ k → u ≡ first_elements (k - length s.elements) t → joined_stretch s u ≡ first_elements k w
cut_right s t u w k e own h is =
    ap (λ (v : Stretch). joined_stretch s v) is
    ∙ sym (first_right s t k own h)
    ∙ ap (λ (v : Stretch). first_elements k v) e

pub rest_left : (s t u w : Stretch) (k : ℕ) → joined_stretch s t ≡ w → children_count s.elements ≡ length s.children → k ≤ length s.elements → u ≡ elements_from k s → joined_stretch u t ≡ elements_from k w
rest_left s t u w k e own h is =
    ap (λ (v : Stretch). joined_stretch v t) is
    ∙ sym (behind_left s t k own h)
    ∙ ap (λ (v : Stretch). elements_from k v) e

pub rest_right : (s t w : Stretch) (k : ℕ) → joined_stretch s t ≡ w → children_count s.elements ≡ length s.children → length s.elements ≤ k → elements_from (k - length s.elements) t ≡ elements_from k w
rest_right s t w k e own h = sym (behind_right s t k own h) ∙ ap (λ (v : Stretch). elements_from k v) e

-- children of elements up to a cut, and behind it
pub count_within : (k : ℕ) (es : List Element) → children_count (take k es) ≤ children_count es
count_within k es = omega (arith, children_count_split k es)

pub count_first : (k : ℕ) (es : List Element) (ks : List Tree) → children_count es ≡ length ks → children_count (take k es) ≡ length (take (children_count (take k es)) ks)
count_first k es ks own = sym (length-take-le (children_count (take k es)) ks (omega (arith, own, count_within k es)))

pub count_behind : (k : ℕ) (es : List Element) (ks : List Tree) → children_count es ≡ length ks → children_count (drop k es) ≡ length (drop (children_count (take k es)) ks)
count_behind k es ks own = omega (arith, own, children_count_split k es, length-drop (children_count (take k es)) ks)

-- nothing is cut off
pub first_all : (s : Stretch) (k : ℕ) → children_count s.elements ≡ length s.children → k ≡ length s.elements → s ≡ first_elements k s
first_all s k own h =
    let e : take k s.elements ≡ s.elements = take_all k s.elements (omega (arith, h)) in
    let n : take (children_count s.elements) s.children ≡ s.children = take_all (children_count s.elements) s.children (omega (arith, own)) in
    sym (ap (λ (x : List Element). stretch x (take (children_count x) s.children)) e ∙ ap (stretch s.elements) n)

pub rest_all : (s : Stretch) (k : ℕ) → k ≡ 0 → s ≡ elements_from k s
rest_all s k h =
    let whole : s ≡ elements_from 0 s = refl in
    whole ∙ ap (λ (n : ℕ). elements_from n s) (sym h)

-- ---- settled elements from a place on

pub settled_all : (es : List Element) → all_settled es ≡ true → settled_first es ≡ length es
settled_all [] h = refl
settled_all (e ∷ es) h = by e.settled h (settled_all es)
  where
    by : (b : Bool) → (b && all_settled es) ≡ true → (all_settled es ≡ true → settled_first es ≡ length es) → (if b then suc (settled_first es) else 0) ≡ suc (length es)
    by true s more = ap suc (more s)
    by false s more = absurd (true≢false (sym s))

settled_some : (es : List Element) → all_settled es ≡ false → settled_first es < length es
settled_some [] h = absurd (true≢false h)
settled_some (e ∷ es) h = by e.settled h (settled_some es)
  where
    by : (b : Bool) → (b && all_settled es) ≡ false → (all_settled es ≡ false → settled_first es < length es) → (if b then suc (settled_first es) else 0) < suc (length es)
    by true s more = let l : settled_first es < length es = more s in omega (arith, l)
    by false s more = omega arith

pub settled_within : (es : List Element) → settled_first es ≤ length es
settled_within [] = omega arith
settled_within (e ∷ es) = by e.settled (settled_within es)
  where
    by : (b : Bool) → settled_first es ≤ length es → (if b then suc (settled_first es) else 0) ≤ suc (length es)
    by true more = omega (arith, more)
    by false more = omega arith

-- where not all of the first are settled, those behind them do not count
pub settled_stops : (es fs : List Element) → settled_first es < length es → settled_first (es ++ fs) ≡ settled_first es
settled_stops [] fs h = absurd (omega (arith, h))
settled_stops (e ∷ es) fs h = by e.settled h (settled_stops es fs)
  where
    by : (b : Bool) → (if b then suc (settled_first es) else 0) < suc (length es) → (settled_first es < length es → settled_first (es ++ fs) ≡ settled_first es) → (if b then suc (settled_first (es ++ fs)) else 0) ≡ (if b then suc (settled_first es) else 0)
    by true s more = ap suc (more (omega (arith, s)))
    by false s more = refl

pub settled_goes_on : (es fs : List Element) → settled_first es ≡ length es → settled_first (es ++ fs) ≡ length es + settled_first fs
settled_goes_on [] fs h = omega arith
settled_goes_on (e ∷ es) fs h = by e.settled h (settled_goes_on es fs)
  where
    by : (b : Bool) → (if b then suc (settled_first es) else 0) ≡ suc (length es) → (settled_first es ≡ length es → settled_first (es ++ fs) ≡ length es + settled_first fs) → (if b then suc (settled_first (es ++ fs)) else 0) ≡ suc (length es) + settled_first fs
    by true s more = let m : settled_first (es ++ fs) ≡ length es + settled_first fs = more (omega (arith, s)) in omega (arith, m)
    by false s more = absurd (omega (arith, s))

pub unsettled_stops : (es fs : List Element) → all_settled es ≡ false → settled_first (es ++ fs) ≡ settled_first es
unsettled_stops es fs h = settled_stops es fs (settled_some es h)

-- settled elements of a run of two parts, from a place in the second on, and from one in the first on
pub settled_right : (s t w : Stretch) (k : ℕ) → joined_stretch s t ≡ w → length s.elements ≤ k → settled_first (drop (k - length s.elements) t.elements) ≡ settled_first (drop k w.elements)
settled_right s t w k e h =
    let j : ℕ = k - length s.elements in
    let i : k ≡ length s.elements + j = omega (arith, h) in
    let d : drop k (s.elements ++ t.elements) ≡ drop j t.elements = ap (λ (n : ℕ). drop n (s.elements ++ t.elements)) i ∙ drop-append-add s.elements t.elements j in
    sym (ap settled_first d) ∙ ap (λ (v : Stretch). settled_first (drop k v.elements)) e

pub settled_left : (s t w : Stretch) (k : ℕ) → joined_stretch s t ≡ w → k ≤ length s.elements → k + settled_first (drop k s.elements) < length s.elements → settled_first (drop k s.elements) ≡ settled_first (drop k w.elements)
settled_left s t w k e h less =
    let d : drop k (s.elements ++ t.elements) ≡ drop k s.elements ++ t.elements = drop-append-le k s.elements t.elements h in
    sym (ap settled_first d ∙ settled_stops (drop k s.elements) t.elements (omega (arith, less, length-drop k s.elements)))
    ∙ ap (λ (v : Stretch). settled_first (drop k v.elements)) e

pub settled_both : (s t w : Stretch) (k : ℕ) → joined_stretch s t ≡ w → k ≤ length s.elements → length s.elements ≤ k + settled_first (drop k s.elements) → settled_first (drop k s.elements) + settled_first t.elements ≡ settled_first (drop k w.elements)
settled_both s t w k e h all =
    let n : length (drop k s.elements) ≡ length s.elements - k = length-drop k s.elements in
    let whole : settled_first (drop k s.elements) ≡ length (drop k s.elements) = omega (arith, all, n, settled_within (drop k s.elements)) in
    let d : settled_first (drop k (s.elements ++ t.elements)) ≡ settled_first (drop k s.elements ++ t.elements) = ap settled_first (drop-append-le k s.elements t.elements h) in
    let g : settled_first (drop k s.elements ++ t.elements) ≡ length (drop k s.elements) + settled_first t.elements = settled_goes_on (drop k s.elements) t.elements whole in
    let f : settled_first (drop k s.elements) + settled_first t.elements ≡ settled_first (drop k (s.elements ++ t.elements)) = omega (arith, d, g, whole) in
    f ∙ ap (λ (v : Stretch). settled_first (drop k v.elements)) e

-- the same from the first element on
pub first_stops : (s t w : Stretch) → joined_stretch s t ≡ w → all_settled s.elements ≡ false → settled_first s.elements ≡ settled_first w.elements
first_stops s t w e h = sym (unsettled_stops s.elements t.elements h) ∙ ap (λ (v : Stretch). settled_first v.elements) e

pub first_goes_on : (s t w : Stretch) → joined_stretch s t ≡ w → all_settled s.elements ≡ true → length s.elements + settled_first t.elements ≡ settled_first w.elements
first_goes_on s t w e h =
    sym (settled_goes_on s.elements t.elements (settled_all s.elements h)) ∙ ap (λ (v : Stretch). settled_first v.elements) e

-- the element at hand is settled, or it is not
pub settled_next : (es : List Element) (i : ℕ) → i < length es → (get_or es i blank).settled ≡ true → settled_first (drop i es) ≡ 1 + settled_first (drop (i + 1) es)
settled_next es i there on = ap settled_first (next_elements es i there) ∙ by (get_or es i blank).settled on
  where
    by : (b : Bool) → b ≡ true → (if b then suc (settled_first (drop (i + 1) es)) else 0) ≡ 1 + settled_first (drop (i + 1) es)
    by true h = omega arith
    by false h = absurd (true≢false (sym h))

pub settled_ends : (es : List Element) (i : ℕ) → i < length es → (get_or es i blank).settled ≡ false → settled_first (drop i es) ≡ 0
settled_ends es i there off = ap settled_first (next_elements es i there) ∙ by (get_or es i blank).settled off
  where
    by : (b : Bool) → b ≡ false → (if b then suc (settled_first (drop (i + 1) es)) else 0) ≡ 0
    by true h = absurd (true≢false h)
    by false h = refl

pub settled_rest : (es : List Element) (i : ℕ) → i < length es → (get_or es i blank).settled ≡ true → all_settled (drop i es) ≡ all_settled (drop (i + 1) es)
settled_rest es i there on =
    ap all_settled (next_elements es i there) ∙ ap (λ (b : Bool). b && all_settled (drop (i + 1) es)) on

pub unsettled_next : (es : List Element) (i : ℕ) → i < length es → (get_or es i blank).settled ≡ false → all_settled (drop i es) ≡ false
unsettled_next es i there off =
    ap all_settled (next_elements es i there) ∙ ap (λ (b : Bool). b && all_settled (drop (i + 1) es)) off

-- ---- bytes before an element of two stretches

pub bytes_left : (s t : Stretch) (k : ℕ) → children_count s.elements ≡ length s.children → k ≤ length s.elements → bytes_before k (joined_stretch s t) ≡ bytes_before k s
bytes_left s t k own h = ap (λ (x : Stretch). all_spans x.children) (first_left s t k own h)

pub bytes_right : (s t : Stretch) (k : ℕ) → children_count s.elements ≡ length s.children → length s.elements ≤ k → bytes_before k (joined_stretch s t) ≡ all_spans s.children + bytes_before (k - length s.elements) t
bytes_right s t k own h =
    ap (λ (x : Stretch). all_spans x.children) (first_right s t k own h)
    ∙ all_spans-append s.children (first_elements (k - length s.elements) t).children

pub bytes_within : (s : Stretch) (k : ℕ) → bytes_before k s ≤ all_spans s.children
bytes_within s k = omega (arith, all_spans-split (children_count (take k s.elements)) s.children)

-- the same, of a run of two parts
pub before_left : (s t w : Stretch) (k : ℕ) → joined_stretch s t ≡ w → children_count s.elements ≡ length s.children → k ≤ length s.elements → bytes_before k s ≡ bytes_before k w
before_left s t w k e own h = sym (bytes_left s t k own h) ∙ ap (λ (v : Stretch). bytes_before k v) e

pub before_right : (s t w : Stretch) (k : ℕ) → joined_stretch s t ≡ w → children_count s.elements ≡ length s.children → length s.elements ≤ k → all_spans s.children + bytes_before (k - length s.elements) t ≡ bytes_before k w
before_right s t w k e own h = sym (bytes_right s t k own h) ∙ ap (λ (v : Stretch). bytes_before k v) e

-- an element of the first part, and of the second
pub begins_left : (s t w : Stretch) (offset : ℕ) → joined_stretch s t ≡ w → children_count s.elements ≡ length s.children → (e : ℕ) → BeginsAt offset s e → BeginsAt offset w e
begins_left s t w offset is own e b =
    let many : length (s.elements ++ t.elements) ≡ length w.elements = ap (λ (v : Stretch). length v.elements) is in (
      omega (arith, b.0, many, length-append s.elements t.elements),
      sym (before_left s t w e is own (omega (arith, b.0))) ∙ b.1,
    )

pub begins_right : (s t w : Stretch) (offset : ℕ) → joined_stretch s t ≡ w → children_count s.elements ≡ length s.children → all_spans s.children ≤ offset → (e : ℕ) → BeginsAt (offset - all_spans s.children) t e → BeginsAt offset w (length s.elements + e)
begins_right s t w offset is own past e b =
    let many : length (s.elements ++ t.elements) ≡ length w.elements = ap (λ (v : Stretch). length v.elements) is in
    let k : ℕ = length s.elements + e in
    let i : k - length s.elements ≡ e = omega arith in
    let there : bytes_before (k - length s.elements) t ≡ bytes_before e t = ap (λ (n : ℕ). bytes_before n t) i in (
      omega (arith, b.0, many, length-append s.elements t.elements),
      omega (arith, before_right s t w k is own (omega arith), there, b.1, past),
    )

-- none of the first part, where more bytes stand before it
none_below : (s t w : Stretch) (offset : ℕ) → joined_stretch s t ≡ w → children_count s.elements ≡ length s.children → (e : ℕ) → BeginsAt offset w e → e < length s.elements → BeginsAt offset s e
none_below s t w offset is own e b below = (below, before_left s t w e is own (omega (arith, below)) ∙ b.1)

-- one of the second part, where it is none of the first
none_past : (s t w : Stretch) (offset : ℕ) → joined_stretch s t ≡ w → children_count s.elements ≡ length s.children → (e : ℕ) → BeginsAt offset w e → length s.elements ≤ e → BeginsAt (offset - all_spans s.children) t (e - length s.elements)
none_past s t w offset is own e b past =
    let many : length (s.elements ++ t.elements) ≡ length w.elements = ap (λ (v : Stretch). length v.elements) is in (
      omega (arith, b.0, past, many, length-append s.elements t.elements),
      omega (arith, before_right s t w e is own past, b.1),
    )

pub none_left : (s t w : Stretch) (offset : ℕ) → joined_stretch s t ≡ w → children_count s.elements ≡ length s.children → offset < all_spans s.children → NoneBeginsAt offset s → NoneBeginsAt offset w
none_left s t w offset is own less never e b = by (cases_lt e (length s.elements))
  where
    by : (e < length s.elements) ⊎ (length s.elements ≤ e) → ⊥
    by (inl below) = never e (none_below s t w offset is own e b below)
    by (inr past) = omega (arith, before_right s t w e is own past, b.1, less)

pub none_right : (s t w : Stretch) (offset : ℕ) → joined_stretch s t ≡ w → children_count s.elements ≡ length s.children → 0 < length t.elements → all_spans s.children ≤ offset → NoneBeginsAt (offset - all_spans s.children) t → NoneBeginsAt offset w
none_right s t w offset is own some beyond never e b = by (cases_lt e (length s.elements))
  where
    by : (e < length s.elements) ⊎ (length s.elements ≤ e) → ⊥
    by (inl below) =
        let there : BeginsAt offset s e = none_below s t w offset is own e b below in
        let start : bytes_before 0 t ≡ offset - all_spans s.children = omega (arith, there.1, bytes_within s e, beyond) in
        never 0 (some, start)
    by (inr past) = never (e - length s.elements) (none_past s t w offset is own e b past)

-- one more element before which other bytes stand
pub nowhere_next : (s : Stretch) (offset k : ℕ) → ((e : ℕ) → e < k → bytes_before e s ≡ offset → ⊥) → (bytes_before k s ≡ offset → ⊥) → (e : ℕ) → e < k + 1 → bytes_before e s ≡ offset → ⊥
nowhere_next s offset k old here e below is = by (cases_lt e k)
  where
    by : (e < k) ⊎ (k ≤ e) → ⊥
    by (inl less) = old e less is
    by (inr more) =
        let same : k ≡ e = omega (arith, below, more) in
        here (ap (λ (n : ℕ). bytes_before n s) same ∙ is)

-- ---- where there are no elements

pub no_settled : (es : List Element) (k : ℕ) → length es ≡ 0 → settled_first (drop k es) ≡ 0
no_settled [] zero h = refl
no_settled [] (suc k) h = refl
no_settled (e ∷ es) k h = absurd (omega (arith, h))

pub no_bytes : (t : Tree) (k : ℕ) → length (elements_of t) ≡ 0 → bytes_before k (stretch_in t) ≡ 0
no_bytes t k h = by (elements_of t) k h
  where
    by : (es : List Element) (n : ℕ) → length es ≡ 0 → all_spans (take (children_count (take n es)) (children_of t)) ≡ 0
    by [] zero none = refl
    by [] (suc n) none = refl
    by (e ∷ es) n none = absurd (omega (arith, none))

pub none_begins : (offset : ℕ) (s : Stretch) → length s.elements ≡ 0 → NoneBeginsAt offset s
none_begins offset s h e b = omega (arith, h, b.0)
