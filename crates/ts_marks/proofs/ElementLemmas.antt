-- What becomes of the elements of a node at an edit.
use Rattle.std.proofs.Common.{◌≡◌, ℕ, zero, suc, ◌+◌, ◌<◌, ◌≤◌, inl, inr, sym, ap, subst, ◌∙◌, refl, arith, Bool, true, false, true≢false, not, ◌&&◌, List, [], ◌∷◌, ◌++◌, length, append_assoc, take, drop, slice_get, Some, All}
use Rattle.std.proofs.lemmas.List.{drop_all, drop-drop, take-append-drop}
use Rattle.std.proofs.Math.Seq.{take-add}
use Rattle.std.proofs.lemmas.List.Elements.{All-nil, All-cons, All-append}
use Rattle.std.proofs.lemmas.Option.{slice_get_within}
use lib.IntN.{ℤ, ◌+ℤ◌}
use Rattle.ts_text.specs.declared.edit.Edit.{Edit}
use Rattle.spec_trees.specs.declared.tree.Tree.{Tree}
use Rattle.spec_trees.specs.declared.tree.Element.{Element}
use Rattle.spec_trees.specs.Trees.{elements_of, children_of, span_of, all_spans, total_of, all_totals, all_values}
use Rattle.spec_trees.specs.Made.{IsNode, children_count, loose_element, loosened_at, loosened, IsElementWell, AreElementsWell, AreCounted, IsTotalOf}
use Rattle.spec_trees.specs.Inside as nodes
use Rattle.spec_reuse.specs.Places.{IsWhole}
use Rattle.ts_node.proofs.RemadeLemmas.{still_counted, still_total}
use Rattle.spec_reuse.specs.Changes.{is_met}
use Rattle.spec_reuse.specs.Marked.{marked_below, all_marked, marked_element, marked_elements}
use Rattle.ts_marks.specs.Parts.{AreOrdered}
use Rattle.ts_marks.specs.Passing.{Loosens, AreLoosened}
use Rattle.ts_marks.proofs.MovedLemmas.{clear}
use Rattle.ts_marks.proofs.MarkedLemmas.{AllWhole, whole_children, total_is, stay_all, drop_next}

pub both_true : (a b : Bool) → (a && not b) ≡ true → (a ≡ true) × (b ≡ false)
both_true true false e = (refl, refl)
both_true true true e = absurd (true≢false (sym e))
both_true false b e = absurd (true≢false (sym e))

-- ---- what is added up stays

pub length-marked : (e : Edit) (es : List Element) (ks : List Tree) (place : ℕ) → length (marked_elements e es ks place) ≡ length es
length-marked e [] ks place = refl
length-marked e (d ∷ es) ks place = ap suc (length-marked e es (drop d.children ks) (place + all_spans (take d.children ks)))

pub count-marked : (e : Edit) (es : List Element) (ks : List Tree) (place : ℕ) → children_count (marked_elements e es ks place) ≡ children_count es
count-marked e [] ks place = refl
count-marked e (d ∷ es) ks place = ap (λ (n : ℕ). d.children + n) (count-marked e es (drop d.children ks) (place + all_spans (take d.children ks)))

pub values-marked : (e : Edit) (es : List Element) (ks : List Tree) (place : ℕ) → all_values (marked_elements e es ks place) ≡ all_values es
values-marked e [] ks place = refl
values-marked e (d ∷ es) ks place = ap (λ (v : ℤ). d.dynamic +ℤ v) (values-marked e es (drop d.children ks) (place + all_spans (take d.children ks)))

pub totals-marked : (e : Edit) (ts : List Tree) (place : ℕ) → all_totals (all_marked e ts place) ≡ all_totals ts
totals-marked e [] place = refl
totals-marked e (t ∷ ts) place =
    ap (λ (v : ℤ). v +ℤ all_totals (all_marked e ts (place + span_of t))) (total_is e t place)
    ∙ ap (λ (v : ℤ). total_of t +ℤ v) (totals-marked e ts (place + span_of t))

-- ---- parts of the children

pub take-marked : (n : ℕ) (e : Edit) (ts : List Tree) (place : ℕ) → take n (all_marked e ts place) ≡ all_marked e (take n ts) place
take-marked zero e ts place = refl
take-marked (suc n) e [] place = refl
take-marked (suc n) e (t ∷ ts) place = ap (λ (xs : List Tree). marked_below e t place ∷ xs) (take-marked n e ts (place + span_of t))

pub drop-marked : (n : ℕ) (e : Edit) (ts : List Tree) (place : ℕ) → drop n (all_marked e ts place) ≡ all_marked e (drop n ts) (place + all_spans (take n ts))
drop-marked zero e ts place = let p : place ≡ place + 0 = omega arith in ap (all_marked e ts) p
drop-marked (suc n) e [] place = refl
drop-marked (suc n) e (t ∷ ts) place =
    let p : place + span_of t + all_spans (take n ts) ≡ place + (span_of t + all_spans (take n ts)) = omega arith in
    drop-marked n e ts (place + span_of t) ∙ ap (all_marked e (drop n ts)) p

pub whole_take : (n : ℕ) (ts : List Tree) → AllWhole ts → AllWhole (take n ts)
whole_take zero ts w k t i = absurd (omega (arith, slice_get_within [] k t i))
whole_take (suc n) [] w k t i = absurd (omega (arith, slice_get_within [] k t i))
whole_take (suc n) (x ∷ ts) w zero t i = w 0 t i
whole_take (suc n) (x ∷ ts) w (suc k) t i = whole_take n ts (λ j c h. w (suc j) c h) k t i

pub whole_drop : (n : ℕ) (ts : List Tree) → AllWhole ts → AllWhole (drop n ts)
whole_drop zero ts w = w
whole_drop (suc n) [] w = w
whole_drop (suc n) (x ∷ ts) w = whole_drop n ts (λ j c h. w (suc j) c h)

-- ---- elements that are still settled

-- an element that is still settled was so, and its children stay as they were
well_one : (e : Edit) (d : Element) (ts : List Tree) (place : ℕ) → AreOrdered 0 e.parts → AllWhole ts → (d.settled ≡ true → IsElementWell d ts) → (marked_element e d place).settled ≡ true → IsElementWell (marked_element e d place) (all_marked e ts place)
well_one e d ts place o w own s =
    let b = both_true d.settled (is_met e.parts place d.extent) s in
    let well : IsElementWell d ts = own b.0 in
    let same : all_marked e ts place ≡ ts = stay_all e ts place d.extent o w well.inner well.covers (clear e.parts place d.extent b.1) in
    subst (λ (x : List Tree). IsElementWell (marked_element e d place) x) (sym same) (record { past = well.past; inner = well.inner; covers = well.covers })

pub well-marked : (e : Edit) (es : List Element) (ks : List Tree) (place : ℕ) → AreOrdered 0 e.parts → AllWhole ks → AreElementsWell es ks → AreElementsWell (marked_elements e es ks place) (all_marked e ks place)
well-marked e [] ks place o w a = tt
well-marked e (d ∷ es) ks place o w a =
    let n = d.children in (
      (λ s. subst (λ (x : List Tree). IsElementWell (marked_element e d place) x) (sym (take-marked n e ks place))
          (well_one e d (take n ks) place o (whole_take n ks w) a.0 s)),
      subst (λ (x : List Tree). AreElementsWell (marked_elements e es (drop n ks) (place + all_spans (take n ks))) x) (sym (drop-marked n e ks place))
          (well-marked e es (drop n ks) (place + all_spans (take n ks)) o (whole_drop n ks w) a.1),
    )

many_marked : (e : Edit) (ts : List Tree) (place : ℕ) → length (all_marked e ts place) ≡ length ts
many_marked e [] place = refl
many_marked e (t ∷ ts) place = ap suc (many_marked e ts (place + span_of t))

-- what a node says of its elements
pub record SaysOfElements (t : Tree) : Type 0 where
  pub counted : AreCounted (elements_of t) (children_of t)
  pub totalled : IsTotalOf (total_of t) (elements_of t) (children_of t)
  pub elements : AreElementsWell (elements_of t) (children_of t)

-- what an edit left of a node says of them
pub elements_say : (e : Edit) (t u : Tree) (place : ℕ) → AreOrdered 0 e.parts → IsWhole t → elements_of u ≡ marked_elements e (elements_of t) (children_of t) place → children_of u ≡ all_marked e (children_of t) place → total_of u ≡ total_of t → SaysOfElements u
elements_say e t u place o w parts kids total =
    let es = elements_of t in
    let ks = children_of t in
    let fs = marked_elements e es ks place in
    let us = all_marked e ks place in
    let n : IsNode t = w t nodes.itself in
    record {
      counted = subst (λ (x : List Element). AreCounted x (children_of u)) (sym parts)
          (subst (λ (x : List Tree). AreCounted fs x) (sym kids) (still_counted es fs ks us (length-marked e es ks place) (count-marked e es ks place) (many_marked e ks place) n.counted));
      totalled = subst (λ (x : ℤ). IsTotalOf x (elements_of u) (children_of u)) (sym total)
          (subst (λ (x : List Element). IsTotalOf (total_of t) x (children_of u)) (sym parts)
          (subst (λ (x : List Tree). IsTotalOf (total_of t) fs x) (sym kids) (still_total (total_of t) es fs ks us (length-marked e es ks place) (values-marked e es ks place) (totals-marked e ks place) n.totalled)));
      elements = subst (λ (x : List Element). AreElementsWell x (children_of u)) (sym parts)
          (subst (λ (x : List Tree). AreElementsWell fs x) (sym kids) (well-marked e es ks place o (whole_children t w) n.elements));
    }

-- ---- the loop

loosened_snoc : (ks : List ℕ) (k : ℕ) (es : List Element) → loosened (ks ++ k ∷ []) es ≡ loosened_at k (loosened ks es)
loosened_snoc [] k es = refl
loosened_snoc (j ∷ ks) k es = loosened_snoc ks k (loosened_at j es)

loosened_after : (xs : List Element) (d : Element) (ys : List Element) (k : ℕ) → length xs ≡ k → loosened_at k (xs ++ d ∷ ys) ≡ xs ++ loose_element d ∷ ys
loosened_after [] d ys zero e = refl
loosened_after [] d ys (suc k) e = absurd (omega (arith, e))
loosened_after (x ∷ xs) d ys zero e = absurd (omega (arith, e))
loosened_after (x ∷ xs) d ys (suc k) e = ap (λ (us : List Element). x ∷ us) (loosened_after xs d ys k (omega (arith, e)))

many_more : (xs : List Element) (x : Element) → length (xs ++ x ∷ []) ≡ length xs + 1
many_more [] x = omega arith
many_more (y ∷ xs) x = omega (arith, many_more xs x)

-- the element of a number, as it becomes, and those behind it
next_all : (edit : Edit) (es done : List Element) (ks : List Tree) (base k c at : ℕ) (d : Element) → slice_get es k ≡ Some d
    → marked_elements edit es ks base ≡ done ++ marked_elements edit (drop k es) (drop c ks) at
    → marked_elements edit es ks base ≡ (done ++ marked_element edit d at ∷ []) ++ marked_elements edit (drop (k + 1) es) (drop (c + d.children) ks) (at + all_spans (take d.children (drop c ks)))
next_all edit es done ks base k c at d i h = h
    ∙ ap (λ (us : List Element). done ++ marked_elements edit us (drop c ks) at) (drop_next es k d i)
    ∙ ap (λ (us : List Tree). done ++ marked_element edit d at ∷ marked_elements edit (drop (k + 1) es) us (at + all_spans (take d.children (drop c ks)))) (drop-drop d.children c ks)
    ∙ sym (append_assoc done (marked_element edit d at ∷ []) (marked_elements edit (drop (k + 1) es) (drop (c + d.children) ks) (at + all_spans (take d.children (drop c ks)))))

pub next_loosened : (edit : Edit) (es : List Element) (ks : List Tree) (base : ℕ) (old new : List ℕ) (k c at : ℕ) (d : Element) → AreLoosened edit es ks base old k c at → slice_get es k ≡ Some d → Loosens edit d k at old new
    → AreLoosened edit es ks base new (k + 1) (c + d.children) (at + all_spans (take d.children (drop c ks)))
next_loosened edit es ks base old new k c at d a i (inl s) = record {
  done = a.done ++ d ∷ [];
  many = omega (arith, many_more a.done d, a.many);
  changed = ap (λ (x : List ℕ). loosened x es) s.1 ∙ a.changed ∙ ap (λ (us : List Element). a.done ++ us) (drop_next es k d i) ∙ sym (append_assoc a.done (d ∷ []) (drop (k + 1) es));
  all = next_all edit es a.done ks base k c at d i a.all
      ∙ ap (λ (x : Element). (a.done ++ x ∷ []) ++ marked_elements edit (drop (k + 1) es) (drop (c + d.children) ks) (at + all_spans (take d.children (drop c ks)))) s.0;
}
next_loosened edit es ks base old new k c at d a i (inr s) = record {
  done = a.done ++ loose_element d ∷ [];
  many = omega (arith, many_more a.done (loose_element d), a.many);
  changed = ap (λ (x : List ℕ). loosened x es) s.1
      ∙ loosened_snoc old k es
      ∙ ap (loosened_at k) (a.changed ∙ ap (λ (us : List Element). a.done ++ us) (drop_next es k d i))
      ∙ loosened_after a.done d (drop (k + 1) es) k a.many
      ∙ sym (append_assoc a.done (loose_element d ∷ []) (drop (k + 1) es));
  all = next_all edit es a.done ks base k c at d i a.all
      ∙ ap (λ (x : Element). (a.done ++ x ∷ []) ++ marked_elements edit (drop (k + 1) es) (drop (c + d.children) ks) (at + all_spans (take d.children (drop c ks)))) s.0;
}

pub begin_loosened : (edit : Edit) (es : List Element) (ks : List Tree) (base at : ℕ) → at ≡ base → AreLoosened edit es ks base [] 0 0 at
begin_loosened edit es ks base at e = record {
  done = [];
  many = refl;
  changed = refl;
  all = ap (marked_elements edit es ks) (sym e);
}

pub all_loosened : (edit : Edit) (es : List Element) (ks : List Tree) (base : ℕ) (loose : List ℕ) (k c at : ℕ) → length es ≤ k → AreLoosened edit es ks base loose k c at → loosened loose es ≡ marked_elements edit es ks base
all_loosened edit es ks base loose k c at past a =
    let none : drop k es ≡ [] = drop_all k es past in
    a.changed
    ∙ ap (λ (us : List Element). a.done ++ us) none
    ∙ ap (λ (us : List Element). a.done ++ marked_elements edit us (drop c ks) at) (sym none)
    ∙ sym a.all

-- where there are no elements none is marked
pub none_loosened : (edit : Edit) (es : List Element) (ks : List Tree) (base : ℕ) (loose : List ℕ) → length es ≡ 0 → loose ≡ [] → loosened loose es ≡ marked_elements edit es ks base
none_loosened edit [] ks base loose h e = ap (λ (x : List ℕ). loosened x []) e
none_loosened edit (d ∷ es) ks base loose h e = absurd (omega (arith, h))

pub next_known : (edit : Edit) (n k at : ℕ) (d : Element) (old new : List ℕ) → All (λ (i : ℕ). i < n) old → k < n → Loosens edit d k at old new → All (λ (i : ℕ). i < n) new
next_known edit n k at d old new a h (inl s) = subst (λ (x : List ℕ). All (λ (i : ℕ). i < n) x) (sym s.1) a
next_known edit n k at d old new a h (inr s) = subst (λ (x : List ℕ). All (λ (i : ℕ). i < n) x) (sym s.1)
    (All-append (λ (i : ℕ). i < n) old (k ∷ []) a (All-cons (λ (i : ℕ). i < n) k [] h (All-nil (λ (i : ℕ). i < n))))

by_next : (es : List Element) (k : ℕ) (d : Element) → slice_get es k ≡ Some d → children_count (take (suc k) es) ≡ children_count (take k es) + d.children
by_next [] k d i = absurd (omega (arith, slice_get_within [] k d i))
by_next (x ∷ es) zero d i =
    let e : Some x ≡ Some d = i in
    let f : x ≡ d = cc in
    let g : x.children ≡ d.children = ap (λ (y : Element). y.children) f in
    omega (arith, g)
by_next (x ∷ es) (suc k) d i = omega (arith, by_next es k d i)

-- how many children the elements before the next one have, and how many bytes
pub next_count : (es : List Element) (k : ℕ) (d : Element) → slice_get es k ≡ Some d → children_count (take (k + 1) es) ≡ children_count (take k es) + d.children
next_count es k d i =
    let n : k + 1 ≡ suc k = omega arith in
    ap (λ (j : ℕ). children_count (take j es)) n ∙ by_next es k d i

spans_append : (xs ys : List Tree) → all_spans (xs ++ ys) ≡ all_spans xs + all_spans ys
spans_append [] ys = omega arith
spans_append (x ∷ xs) ys = omega (arith, spans_append xs ys)

pub next_bytes : (ks : List Tree) (c n m : ℕ) → m ≡ c + n → all_spans (take m ks) ≡ all_spans (take c ks) + all_spans (take n (drop c ks))
next_bytes ks c n m e = ap (λ (i : ℕ). all_spans (take i ks)) e ∙ ap all_spans (take-add c n ks) ∙ spans_append (take c ks) (take n (drop c ks))

pub bytes_within : (ks : List Tree) (m : ℕ) → all_spans (take m ks) ≤ all_spans ks
bytes_within ks m =
    let e : all_spans ks ≡ all_spans (take m ks) + all_spans (drop m ks) = ap all_spans (sym (take-append-drop m ks)) ∙ spans_append (take m ks) (drop m ks) in
    omega (arith, e)

-- ---- one element

pub element_stays : (e : Edit) (d : Element) (place : ℕ) → (d.settled ≡ true → is_met e.parts place d.extent ≡ false) → marked_element e d place ≡ d
element_stays e d place h = ap (λ (b : Bool). record d { settled = b }) (by d.settled refl)
  where
    by : (b : Bool) → d.settled ≡ b → (b && not (is_met e.parts place d.extent)) ≡ b
    by true s = rw (h s) refl
    by false s = refl

pub element_loosens : (e : Edit) (d : Element) (place : ℕ) → is_met e.parts place d.extent ≡ true → marked_element e d place ≡ loose_element d
element_loosens e d place h = by d.settled
  where
    by : (b : Bool) → record d { settled = b && not (is_met e.parts place d.extent) } ≡ record d { settled = false }
    by true = rw h refl
    by false = refl
