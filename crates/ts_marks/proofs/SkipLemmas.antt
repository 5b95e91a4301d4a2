-- Elements that the next part of an edit does not meet stay as they are, and are passed at once.
use Rattle.std.proofs.Common.{◌≡◌, ℕ, zero, suc, ◌+◌, ◌-◌, ◌<◌, ◌≤◌, inl, sym, ap, subst, ◌∙◌, refl, arith, Bool, true, false, List, [], ◌∷◌, ◌++◌, length, length-append, append_assoc, take, drop, slice_get, Some}
use Rattle.std.specs.Prelude.{if◌then◌else◌}
use Rattle.std.proofs.lemmas.List.{drop_all, drop-drop, take-append-drop, length-take-le}
use Rattle.std.proofs.Math.Seq.{take-add}
use Rattle.ts_text.specs.declared.edit.Edit.{Edit}
use Rattle.ts_text.specs.declared.edit.Part.{Part}
use Rattle.spec_trees.specs.declared.tree.Tree.{Tree}
use Rattle.spec_trees.specs.declared.tree.Element.{Element}
use Rattle.spec_trees.specs.Trees.{elements_of, children_of, span_of, all_spans}
use Rattle.spec_trees.specs.Made.{IsNode, IsElementWell, AreElementsWell, AreCounted, children_count, bytes_before, stretch_in, replaced}
use Rattle.spec_trees.specs.Inside as nodes
use Rattle.spec_reuse.specs.Places.{IsWhole}
use Rattle.spec_reuse.specs.Changes.{is_met}
use Rattle.spec_reuse.specs.Marked.{all_marked, marked_element, marked_elements}
use Rattle.ts_node.specs.Places.{IsSettledBy, is_settled_by, settled_by, settled_after}
use Rattle.ts_node.proofs.ElementLemmas.{children_count_append, count_within, count_behind, well-behind}
use Rattle.ts_node.proofs.PlaceLemmas.{count_rises}
use Rattle.ts_node.proofs.SettledLemmas.{one_tells, by_within}
use Rattle.ts_marks.specs.declared.passed.Passed.{Passed}
use Rattle.ts_marks.specs.Parts.{AreOrdered}
use Rattle.ts_marks.specs.Passing.{left_of, next_start_of, spans_between, AreDone, AreLoosened, StayTo}
use Rattle.ts_marks.proofs.MovedLemmas.{AreClear, unmet, clear}
use Rattle.ts_marks.proofs.MarkedLemmas.{AllWhole, whole_children, stay_all, drop_next}
use Rattle.ts_marks.proofs.ElementLemmas.{take-marked, drop-marked, whole_take, whole_drop, element_stays, next_bytes, bytes_within}

-- ---- what ends before the next part

ahead : (end place extent : ℕ) (qs : List Part) → AreOrdered end qs → place + extent ≤ end → AreClear qs place extent
ahead end place extent [] o h = tt
ahead end place extent (q ∷ qs) o h = (inl (omega (arith, o.0, h)), ahead q.end place extent qs o.1.1 (omega (arith, o.0, o.1.0, h)))

before_next : (from : ℕ) (ps : List Part) (place extent : ℕ) → AreOrdered from ps → place + extent ≤ next_start_of ps → is_met ps place extent ≡ false
before_next from [] place extent o h = refl
before_next from (p ∷ ps) place extent o h = unmet (p ∷ ps) place extent (inl h, ahead p.end place extent ps o.1.1 (omega (arith, h, o.1.0)))

-- no part meets it
pub clear_before : (a : Passed) (place extent : ℕ) → a.from ≤ place → place + extent ≤ next_start_of (left_of a) → is_met a.edit.now.parts place extent ≡ false
clear_before a place extent h k = a.passed.meets place extent h ∙ before_next a.from (left_of a) place extent a.passed.left k

-- ---- the first elements

-- the first m elements stay as they are, and so do their children
pub record FirstStay (e : Edit) (es : List Element) (ks : List Tree) (at m : ℕ) : Type 0 where
  pub elements : marked_elements e es ks at
      ≡ take m es ++ marked_elements e (drop m es) (drop (children_count (take m es)) ks) (at + all_spans (take (children_count (take m es)) ks))
  pub children : all_marked e ks at
      ≡ take (children_count (take m es)) ks ++ all_marked e (drop (children_count (take m es)) ks) (at + all_spans (take (children_count (take m es)) ks))

none_stay : (e : Edit) (es : List Element) (ks : List Tree) (at : ℕ) → FirstStay e es ks at 0
none_stay e es ks at =
    let z : at ≡ at + 0 = omega arith in
    record {
      elements = ap (marked_elements e es ks) z;
      children = ap (all_marked e ks) z;
    }

marked_split : (n : ℕ) (e : Edit) (ts : List Tree) (place : ℕ) → all_marked e ts place ≡ all_marked e (take n ts) place ++ all_marked e (drop n ts) (place + all_spans (take n ts))
marked_split n e ts place =
    sym (take-append-drop n (all_marked e ts place))
    ∙ ap (λ (xs : List Tree). xs ++ drop n (all_marked e ts place)) (take-marked n e ts place)
    ∙ ap (λ (ys : List Tree). all_marked e (take n ts) place ++ ys) (drop-marked n e ts place)

one_more : (e : Edit) (d : Element) (es : List Element) (ks : List Tree) (at k : ℕ) → marked_element e d at ≡ d → all_marked e (take d.children ks) at ≡ take d.children ks → FirstStay e es (drop d.children ks) (at + all_spans (take d.children ks)) k → FirstStay e (d ∷ es) ks at (suc k)
one_more e d es ks at k own kids r =
    let n = d.children in
    let c = children_count (take k es) in
    let q = at + all_spans (take n ks) in
    let p = q + all_spans (take c (drop n ks)) in
    let dd : drop c (drop n ks) ≡ drop (n + c) ks = drop-drop c n ks in
    let ta : take (n + c) ks ≡ take n ks ++ take c (drop n ks) = take-add n c ks in
    let sp : p ≡ at + all_spans (take (n + c) ks) = omega (arith, next_bytes ks n c (n + c) refl) in
    record {
      elements = ap (λ (x : Element). x ∷ marked_elements e es (drop n ks) q) own
          ∙ ap (λ (xs : List Element). d ∷ xs) r.elements
          ∙ ap (λ (ys : List Tree). (d ∷ take k es) ++ marked_elements e (drop k es) ys p) dd
          ∙ ap (λ (j : ℕ). (d ∷ take k es) ++ marked_elements e (drop k es) (drop (n + c) ks) j) sp;
      children = marked_split n e ks at
          ∙ ap (λ (xs : List Tree). xs ++ all_marked e (drop n ks) q) kids
          ∙ ap (λ (xs : List Tree). take n ks ++ xs) r.children
          ∙ sym (append_assoc (take n ks) (take c (drop n ks)) (all_marked e (drop c (drop n ks)) p))
          ∙ ap (λ (xs : List Tree). xs ++ all_marked e (drop c (drop n ks)) p) (sym ta)
          ∙ ap (λ (ys : List Tree). take (n + c) ks ++ all_marked e ys p) dd
          ∙ ap (λ (j : ℕ). take (n + c) ks ++ all_marked e (drop (n + c) ks) j) sp;
    }

-- settled elements that end before a place stay as they are, where nothing before it is met
pub first_stay : (e : Edit) (limit room : ℕ) (es : List Element) (ks : List Tree) (at : ℕ) → AreOrdered 0 e.parts → AllWhole ks → AreElementsWell es ks → room ≡ limit - at → ((place extent : ℕ) → at ≤ place → place + extent ≤ limit → is_met e.parts place extent ≡ false) → FirstStay e es ks at (settled_by room es ks)
first_stay e limit room [] ks at o w a left free = none_stay e [] ks at
first_stay e limit room (d ∷ es) ks at o w a left free =
    by (is_settled_by d (all_spans (take d.children ks)) room) refl
    (first_stay e limit (room - all_spans (take d.children ks)) es (drop d.children ks) (at + all_spans (take d.children ks)) o (whole_drop d.children ks w) a.1 (omega (arith, left)) (λ p x h k. free p x (omega (arith, h)) k))
  where
    by : (b : Bool) → is_settled_by d (all_spans (take d.children ks)) room ≡ b → FirstStay e es (drop d.children ks) (at + all_spans (take d.children ks)) (settled_by (room - all_spans (take d.children ks)) es (drop d.children ks))
        → FirstStay e (d ∷ es) ks at (if b then suc (settled_by (room - all_spans (take d.children ks)) es (drop d.children ks)) else 0)
    by true t r =
        let s : IsSettledBy d (all_spans (take d.children ks)) room = one_tells d (all_spans (take d.children ks)) room t in
        let well : IsElementWell d (take d.children ks) = a.0 s.0 in
        let m : is_met e.parts at d.extent ≡ false = free at d.extent (omega arith) (omega (arith, s.1, well.past, left)) in
        one_more e d es ks at (settled_by (room - all_spans (take d.children ks)) es (drop d.children ks)) (element_stays e d at (λ x. m))
        (stay_all e (take d.children ks) at d.extent o (whole_take d.children ks w) well.inner well.covers (clear e.parts at d.extent m)) r
    by false t r = none_stay e (d ∷ es) ks at

-- ---- what is done so far

skip_done : (e : Edit) (ts : List Tree) (base : ℕ) (changes : List (ℕ × Tree)) (c at i next : ℕ) → i ≤ length (drop c ts) → all_marked e (drop c ts) at ≡ take i (drop c ts) ++ all_marked e (drop i (drop c ts)) next → AreDone e ts base changes c at → AreDone e ts base changes (c + i) next
skip_done e ts base changes c at i next h stay a =
    let us = take i (drop c ts) in
    let d : drop i (drop c ts) ≡ drop (c + i) ts = drop-drop i c ts in
    record {
      done = a.done ++ us;
      many = omega (arith, length-append a.done us, a.many, length-take-le i (drop c ts) h);
      changed = a.changed
          ∙ ap (λ (xs : List Tree). a.done ++ xs) (sym (take-append-drop i (drop c ts)) ∙ ap (λ (ys : List Tree). us ++ ys) d)
          ∙ sym (append_assoc a.done us (drop (c + i) ts));
      all = a.all
          ∙ ap (λ (xs : List Tree). a.done ++ xs) (stay ∙ ap (λ (ys : List Tree). us ++ all_marked e ys next) d)
          ∙ sym (append_assoc a.done us (all_marked e (drop (c + i) ts) next));
    }

skip_loosened : (e : Edit) (es : List Element) (ks : List Tree) (base : ℕ) (loose : List ℕ) (k c at m i next : ℕ) → m ≤ length (drop k es) → marked_elements e (drop k es) (drop c ks) at ≡ take m (drop k es) ++ marked_elements e (drop m (drop k es)) (drop i (drop c ks)) next → AreLoosened e es ks base loose k c at → AreLoosened e es ks base loose (k + m) (c + i) next
skip_loosened e es ks base loose k c at m i next h stay a =
    let us = take m (drop k es) in
    let d : drop m (drop k es) ≡ drop (k + m) es = drop-drop m k es in
    let f : drop i (drop c ks) ≡ drop (c + i) ks = drop-drop i c ks in
    record {
      done = a.done ++ us;
      many = omega (arith, length-append a.done us, a.many, length-take-le m (drop k es) h);
      changed = a.changed
          ∙ ap (λ (xs : List Element). a.done ++ xs) (sym (take-append-drop m (drop k es)) ∙ ap (λ (ys : List Element). us ++ ys) d)
          ∙ sym (append_assoc a.done us (drop (k + m) es));
      all = a.all
          ∙ ap (λ (xs : List Element). a.done ++ xs) (stay ∙ ap (λ (ys : List Element). us ++ marked_elements e ys (drop i (drop c ks)) next) d ∙ ap (λ (ys : List Tree). us ++ marked_elements e (drop (k + m) es) ys next) f)
          ∙ sym (append_assoc a.done us (marked_elements e (drop (k + m) es) (drop (c + i) ks) next));
    }

-- elements from a number on have no more children than there are
count_fits : (es : List Element) (ks : List Tree) (k m : ℕ) → AreCounted es ks → children_count (take m (drop k es)) ≤ length (drop (children_count (take k es)) ks)
count_fits [] ks zero zero a = omega arith
count_fits [] ks zero (suc m) a = omega arith
count_fits [] ks (suc k) zero a = omega arith
count_fits [] ks (suc k) (suc m) a = omega arith
count_fits (e ∷ es) ks k m a = omega (arith, count_within m (drop k (e ∷ es)), count_behind k (e ∷ es) ks a)

-- settled elements from a number on that end before the next part stay as they are
pub stay_to : (a : Passed) (t : Tree) (base k m : ℕ) → IsWhole t → a.from ≤ base + bytes_before k (stretch_in t) → m ≡ settled_after (next_start_of (left_of a) - base) k (stretch_in t) → StayTo a.edit.now t base k (k + m)
stay_to a t base k m w from is =
    let e = a.edit.now in
    let es = elements_of t in
    let ks = children_of t in
    let c = children_count (take k es) in
    let at = base + bytes_before k (stretch_in t) in
    let limit = next_start_of (left_of a) in
    let room = (limit - base) - bytes_before k (stretch_in t) in
    let i = children_count (take m (drop k es)) in
    let n : IsNode t = w t nodes.itself in
    let f : FirstStay e (drop k es) (drop c ks) at m =
    subst (λ (j : ℕ). FirstStay e (drop k es) (drop c ks) at j) (sym is)
    (first_stay e limit room (drop k es) (drop c ks) at a.passed.whole (whole_drop c ks (whole_children t w)) (well-behind k es ks n.elements) (omega arith)
    (λ p x h j. clear_before a p x (omega (arith, from, h)) j)) in
    let count : children_count (take (k + m) es) ≡ c + i = ap children_count (take-add k m es) ∙ children_count_append (take k es) (take m (drop k es)) in
    let bytes : bytes_before (k + m) (stretch_in t) ≡ bytes_before k (stretch_in t) + all_spans (take i (drop c ks)) = next_bytes ks c i (children_count (take (k + m) es)) count in
    let next : at + all_spans (take i (drop c ks)) ≡ base + bytes_before (k + m) (stretch_in t) = omega (arith, bytes) in
    let few : m ≤ length (drop k es) = omega (arith, is, by_within room (drop k es) (drop c ks)) in
    record {
      children = λ changes d.
          subst (λ (j : ℕ). AreDone e ks base changes (children_count (take (k + m) es)) j) next
          (subst (λ (j : ℕ). AreDone e ks base changes j (at + all_spans (take i (drop c ks)))) (sym count)
          (skip_done e ks base changes c at i (at + all_spans (take i (drop c ks))) (count_fits es ks k m n.counted) f.children d));
      elements = λ loose d.
          subst (λ (j : ℕ). AreLoosened e es ks base loose (k + m) (children_count (take (k + m) es)) j) next
          (subst (λ (j : ℕ). AreLoosened e es ks base loose (k + m) j (at + all_spans (take i (drop c ks)))) (sym count)
          (skip_loosened e es ks base loose k c at m i (at + all_spans (take i (drop c ks))) few f.elements d));
    }

-- ---- children from one number on, up to another

pub between_next : (ts : List Tree) (k to : ℕ) (c : Tree) → k < to → slice_get ts k ≡ Some c → spans_between k to ts ≡ span_of c + spans_between (k + 1) to ts
between_next ts k to c h e =
    let n : to - k ≡ suc (to - (k + 1)) = omega (arith, h) in
    ap (λ (m : ℕ). all_spans (take m (drop k ts))) n
    ∙ ap (λ (us : List Tree). all_spans (take (suc (to - (k + 1))) us)) (drop_next ts k c e)

pub between_end : (ts : List Tree) (k to : ℕ) → to ≤ k → spans_between k to ts ≡ 0
between_end ts k to h =
    let n : to - k ≡ 0 = omega (arith, h) in
    ap (λ (m : ℕ). all_spans (take m (drop k ts))) n

pub between_within : (ts : List Tree) (from to : ℕ) → all_spans (take from ts) + spans_between from to ts ≤ all_spans ts
between_within ts from to =
    omega (arith, next_bytes ts from (to - from) (from + (to - from)) refl, bytes_within ts (from + (to - from)))

-- the children of an element end where the next one begins
pub element_end : (t : Tree) (k place offset from to : ℕ) → offset ≡ bytes_before k (stretch_in t) → from ≡ children_count (take k (elements_of t)) → to ≡ children_count (take (k + 1) (elements_of t)) → place + offset + spans_between from to (children_of t) ≡ place + bytes_before (k + 1) (stretch_in t)
element_end t k place offset from to a b c =
    let ks = children_of t in
    let first = children_count (take k (elements_of t)) in
    let last = children_count (take (k + 1) (elements_of t)) in
    let same : spans_between from to ks ≡ spans_between first last ks = ap (λ (n : ℕ). spans_between n to ks) b ∙ ap (λ (n : ℕ). spans_between first n ks) c in
    let is : last ≡ first + (last - first) = omega (arith, count_rises k (k + 1) (elements_of t) (omega arith)) in
    let whole : bytes_before (k + 1) (stretch_in t) ≡ bytes_before k (stretch_in t) + spans_between first last ks = next_bytes ks first (last - first) last is in
    omega (arith, same, whole, a)

-- ---- the start and the end

pub begin_done : (e : Edit) (ts : List Tree) (base at : ℕ) → at ≡ base → AreDone e ts base [] 0 at
begin_done e ts base at h = record {
  done = [];
  many = refl;
  changed = refl;
  all = ap (all_marked e ts) (sym h);
}

pub all_done : (e : Edit) (ts : List Tree) (base : ℕ) (changes : List (ℕ × Tree)) (k at : ℕ) → length ts ≤ k → AreDone e ts base changes k at → replaced changes ts ≡ all_marked e ts base
all_done e ts base changes k at past a =
    let none : drop k ts ≡ [] = drop_all k ts past in
    a.changed
    ∙ ap (λ (us : List Tree). a.done ++ us) none
    ∙ ap (λ (us : List Tree). a.done ++ all_marked e us at) (sym none)
    ∙ sym a.all
