-- A node that is made anew is what the definition says, and is a node.
use Rattle.std.proofs.Common.{◌≡◌, ℕ, ◌+◌, ◌-◌, ◌<◌, ◌≤◌, inl, inr, sym, ap, subst, ◌∙◌, refl, arith, Bool, true, false, not, ◌&&◌, List, [], ◌∷◌, ◌++◌, length, drop, slice_get, Some, All}
use Rattle.std.proofs.lemmas.List.Elements.{All-nil, All-cons, All-append, All-head, All-tail}
use Rattle.std.proofs.lemmas.List.{length-append, length-take, length-drop}
use Rattle.ts_base.specs.Bytes.{Bytes}
use Rattle.ts_text.specs.declared.edit.Edit.{Edit}
use Rattle.ts_text.specs.declared.edit.Part.{Part}
use Rattle.ts_text.specs.Edit.{IsPartOf, replaced_from}
use Rattle.std.specs.List.{slice_range}
use Rattle.spec_trees.specs.declared.tree.Tree.{Tree}
use Rattle.spec_trees.specs.declared.tree.Element.{Element}
use Rattle.spec_trees.specs.declared.tree.Tree.TheOpen.{Tree-F}
use Rattle.spec_trees.specs.declared.tree.Tree.TheViews.{roll-Tree, out-Tree}
use Rattle.spec_trees.specs.Trees.{children_of, elements_of, pad_of, span_of, all_spans, all_totals, node_extent, is_settled, all_nodes, greatest_depth}
use Rattle.spec_trees.specs.Made.{IsNode, AreElementsWell, remade, loosened, replaced, most_span}
use Rattle.spec_trees.specs.Inside as nodes
use Rattle.ts_node.specs.Standing.{CanBeRemade}
use Rattle.spec_reuse.specs.Places.{lead_of, IsWhole}
use Rattle.spec_reuse.specs.Changes.{is_met, moved, moved_from, IsEditOver}
use Rattle.spec_reuse.specs.Marked.{marked_below, all_marked, marked_elements, marked}
use Rattle.ts_marks.specs.Parts.{AreOrdered}
use Rattle.ts_marks.specs.Passing.{Adds, AreDone}
use Rattle.ts_marks.proofs.MovedLemmas.{ordered, moved_rises, moved_high}
use Rattle.ts_marks.proofs.MarkedLemmas.{marked_is, spans_are, same_all, whole_children, one_shared, one_changed}
use Rattle.ts_marks.proofs.ElementLemmas.{totals-marked, well-marked}

-- ---- one node

unsettled : (e : Edit) (t : Tree) (place : ℕ) → (is_settled t ≡ true → is_met e.parts place (node_extent t) ≡ true) → (is_settled t && not (is_met e.parts place (node_extent t))) ≡ false
unsettled e t place h = by (is_settled t) refl
  where
    by : (b : Bool) → is_settled t ≡ b → (is_settled t && not (is_met e.parts place (node_extent t))) ≡ false
    by true s = rw (s, h s) refl
    by false s = rw s refl

same_layer : (o : Tree-F Tree) (pad pad' size size' : ℕ) (settled settled' : Bool) (elements elements' : List Element) (children children' : List Tree) → pad ≡ pad' → size ≡ size' → settled ≡ settled' → elements ≡ elements' → children ≡ children'
    → record o { pad = pad; size = size; settled = settled; elements = elements; children = children } ≡ record o { pad = pad'; size = size'; settled = settled'; elements = elements'; children = children' }
same_layer o pad pad' size size' settled settled' elements elements' children children' a b c f d = rw (a, b, c, f, d) refl

pub below_is : (e : Edit) (t : Tree) (place start own end : ℕ) (changes : List (ℕ × Tree)) (loose : List ℕ) → start ≡ moved e place → own ≡ moved e (place + pad_of t) → end ≡ moved e (place + span_of t)
    → replaced changes (children_of t) ≡ all_marked e (children_of t) place → loosened loose (elements_of t) ≡ marked_elements e (elements_of t) (children_of t) place → (is_settled t ≡ true → is_met e.parts place (node_extent t) ≡ true)
    → remade t (own - start) (end - own) changes loose ≡ marked_below e t place
below_is e t place start own end changes loose a b c d f h =
    ap roll-Tree (same_layer (out-Tree t) (own - start) (moved e (place + pad_of t) - moved e place) (end - own) (moved e (place + span_of t) - moved e (place + pad_of t))
    false (is_settled t && not (is_met e.parts place (node_extent t))) (loosened loose (elements_of t)) (marked_elements e (elements_of t) (children_of t) place) (replaced changes (children_of t)) (all_marked e (children_of t) place)
    (omega (arith, a, b)) (omega (arith, b, c)) (sym (unsettled e t place h)) f d)
    ∙ sym (marked_is e t place)

pub root_is : (e : Edit) (t : Tree) (own end : ℕ) (changes : List (ℕ × Tree)) (loose : List ℕ) → own ≡ moved e (pad_of t) → end ≡ moved e (span_of t)
    → replaced changes (children_of t) ≡ all_marked e (children_of t) (lead_of t) → loosened loose (elements_of t) ≡ marked_elements e (elements_of t) (children_of t) (lead_of t) → remade t own (end - own) changes loose ≡ marked e t
root_is e t own end changes loose b c d f =
    ap roll-Tree (same_layer (out-Tree t) own (moved e (pad_of t)) (end - own) (moved e (span_of t) - moved e (pad_of t)) false false (loosened loose (elements_of t)) (marked_elements e (elements_of t) (children_of t) (lead_of t)) (replaced changes (children_of t)) (all_marked e (children_of t) (lead_of t)) b (omega (arith, b, c)) refl f d)

-- a node whose children are as they become can be remade, where they have room
can : (e : Edit) (t : Tree) (place pad size : ℕ) (changes : List (ℕ × Tree)) (loose : List ℕ) → AreOrdered 0 e.parts → IsWhole t → replaced changes (children_of t) ≡ all_marked e (children_of t) place
    → loosened loose (elements_of t) ≡ marked_elements e (elements_of t) (children_of t) place
    → pad + size ≤ most_span → moved e (place + all_spans (children_of t)) - moved e place ≤ pad + size → CanBeRemade t pad size changes loose
can e t place pad size changes loose o w d f short room =
    let n : IsNode t = w t nodes.itself in
    let same = same_all e (children_of t) place in
    let a : all_spans (replaced changes (children_of t)) ≡ all_spans (all_marked e (children_of t) place) = ap all_spans d in
    let b : all_nodes (replaced changes (children_of t)) ≡ all_nodes (all_marked e (children_of t) place) = ap all_nodes d in
    let g : greatest_depth (replaced changes (children_of t)) ≡ greatest_depth (all_marked e (children_of t) place) = ap greatest_depth d in
    record {
      node = n;
      short = short;
      within = omega (arith, a, spans_are e (children_of t) place, room);
      nodes = omega (arith, b, same.0);
      shallow = omega (arith, g, same.1);
      totals = ap all_totals d ∙ totals-marked e (children_of t) place;
      elements = subst (λ (x : List Element). AreElementsWell x (replaced changes (children_of t))) (sym f)
          (subst (λ (x : List Tree). AreElementsWell (marked_elements e (elements_of t) (children_of t) place) x) (sym d)
          (well-marked e (elements_of t) (children_of t) place o (whole_children t w) n.elements));
    }

pub below_can : (e : Edit) (t : Tree) (place start own end : ℕ) (changes : List (ℕ × Tree)) (loose : List ℕ) → AreOrdered 0 e.parts → IsWhole t → start ≡ moved e place → own ≡ moved e (place + pad_of t) → end ≡ moved e (place + span_of t)
    → replaced changes (children_of t) ≡ all_marked e (children_of t) place → loosened loose (elements_of t) ≡ marked_elements e (elements_of t) (children_of t) place → moved e (place + span_of t) ≤ most_span
    → CanBeRemade t (own - start) (end - own) changes loose
below_can e t place start own end changes loose o w a b c d f short =
    let n : IsNode t = w t nodes.itself in
    let r = moved_rises 0 e.parts place (place + pad_of t) (omega arith) in
    let s = moved_rises 0 e.parts (place + pad_of t) (place + span_of t) (omega arith) in
    let k = moved_rises 0 e.parts (place + all_spans (children_of t)) (place + span_of t) (omega (arith, n.sized.within)) in
    can e t place (own - start) (end - own) changes loose o w d f (omega (arith, a, b, c, r, s, short)) (omega (arith, a, b, c, r, s, k))

pub root_can : (e : Edit) (t : Tree) (own end : ℕ) (changes : List (ℕ × Tree)) (loose : List ℕ) → AreOrdered 0 e.parts → IsWhole t → own ≡ moved e (pad_of t) → end ≡ moved e (span_of t)
    → replaced changes (children_of t) ≡ all_marked e (children_of t) (lead_of t) → loosened loose (elements_of t) ≡ marked_elements e (elements_of t) (children_of t) (lead_of t) → moved e (span_of t) ≤ most_span → CanBeRemade t own (end - own) changes loose
root_can e t own end changes loose o w b c d f short =
    let n : IsNode t = w t nodes.itself in
    let s = moved_rises 0 e.parts (pad_of t) (span_of t) (omega arith) in
    let k = moved_rises 0 e.parts (lead_of t + all_spans (children_of t)) (span_of t) (omega (arith, n.sized.within)) in
    can e t (lead_of t) own (end - own) changes loose o w d f (omega (arith, b, c, s, short)) (omega (arith, b, c, s, k))

pub edges_short : (e : Edit) (t : Tree) (place : ℕ) → moved e (place + span_of t) ≤ most_span → (moved e place ≤ most_span) × (moved e (place + pad_of t) ≤ most_span)
edges_short e t place short = (
  omega (arith, moved_rises 0 e.parts place (place + span_of t) (omega arith), short),
  omega (arith, moved_rises 0 e.parts (place + pad_of t) (place + span_of t) (omega arith), short),
)

pub moved_short : (e : Edit) (a b : ℕ) → a ≤ b → moved e b ≤ most_span → moved e a ≤ most_span
moved_short e a b h k = omega (arith, moved_rises 0 e.parts a b h, k)

-- ---- the loop

pub all_within : (n : ℕ) (changes more : List (ℕ × Tree)) (k : ℕ) (t : Tree) → All (λ (c : ℕ × Tree). c.0 < n) changes → k < n → more ≡ changes ++ (k, t) ∷ [] → All (λ (c : ℕ × Tree). c.0 < n) more
all_within n changes more k t a h e = subst (λ (cs : List (ℕ × Tree)). All (λ (c : ℕ × Tree). c.0 < n) cs) (sym e)
    (All-append (λ (c : ℕ × Tree). c.0 < n) changes ((k, t) ∷ []) a (All-cons (λ (c : ℕ × Tree). c.0 < n) (k, t) [] h (All-nil (λ (c : ℕ × Tree). c.0 < n))))

pub next_within : (e : Edit) (n place : ℕ) (old new : List (ℕ × Tree)) (k : ℕ) (t : Tree) → All (λ (c : ℕ × Tree). c.0 < n) old → k < n → Adds e t k place old new → All (λ (c : ℕ × Tree). c.0 < n) new
next_within e n place old new k t a h (inl s) = subst (λ (cs : List (ℕ × Tree)). All (λ (c : ℕ × Tree). c.0 < n) cs) (sym s.1) a
next_within e n place old new k t a h (inr m) = all_within n old new k (marked_below e t place) a h m

pub next_done : (e : Edit) (ts : List Tree) (base : ℕ) (old new : List (ℕ × Tree)) (k place next : ℕ) (t : Tree) → AreDone e ts base old k place → slice_get ts k ≡ Some t → Adds e t k place old new → next ≡ place + span_of t → AreDone e ts base new (k + 1) next
next_done e ts base old new k place next t d at (inl s) n =
    subst (λ (cs : List (ℕ × Tree)). AreDone e ts base cs (k + 1) next) (sym s.1) (one_shared e ts base old k place next t d at s.0 n)
next_done e ts base old new k place next t d at (inr m) n = one_changed e ts base old new k place next t (marked_below e t place) d at refl m n

-- ---- an edit of a text

pub edit_ordered : (span : ℕ) (e : Edit) → IsEditOver span e → AreOrdered 0 e.parts
edit_ordered span e o = ordered o.text 0 e.parts (λ p h. omega arith) o.in_range.within o.in_range.apart

edit_length : (text : Bytes) (from : ℕ) (ps : List Part) → AreOrdered from ps → All (IsPartOf text) ps → from ≤ length text → length (replaced_from text from ps) ≡ moved_from from ps (length text)
edit_length text from [] o w h = length-drop from text
edit_length text from (p ∷ ps) o w h =
    let own : IsPartOf text p = All-head (IsPartOf text) p ps w in
    let inside : p.start ≤ length text = own.start_on.0 in
    let ends : p.end ≤ length text = own.end_on.0 in
    let rest = edit_length text p.end ps o.1.1 (All-tail (IsPartOf text) p ps w) ends in
    let one : length (slice_range text from p.start) ≡ p.start - from = omega (arith, length-take (p.start - from) (drop from text), length-drop from text, inside) in
    let four : length (slice_range text from p.start ++ p.new) ≡ length (slice_range text from p.start) + length p.new = length-append (slice_range text from p.start) p.new in
    let three : length ((slice_range text from p.start ++ p.new) ++ replaced_from text p.end ps) ≡ length (slice_range text from p.start ++ p.new) + length (replaced_from text p.end ps) =
    length-append (slice_range text from p.start ++ p.new) (replaced_from text p.end ps) in
    let m = moved_high from p ps (length text) inside in
    omega (arith, one, four, three, rest, m)

pub edit_short : (span : ℕ) (e : Edit) → IsEditOver span e → moved e span ≤ most_span
edit_short span e o =
    let l = edit_length o.text 0 e.parts (edit_ordered span e o) o.in_range.within (omega arith) in
    let r = moved_rises 0 e.parts span (length o.text) o.long in
    omega (arith, l, r, o.fits)
