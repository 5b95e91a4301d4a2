-- What an edit leaves of a whole tree is whole.
use Rattle.std.proofs.Common.{◌≡◌, ◌∙◌, sym, ap, subst, refl, ℕ, zero, suc, ◌+◌, ◌-◌, ◌*◌, ◌^◌, ◌<◌, ◌≤◌, ◌⊎◌, inl, inr, ⊎_elim, arith, Bool, true, false, true≢false, List, [], ◌∷◌, slice_get, Some}
use Rattle.std.proofs.lemmas.Option.{slice_get_within}
use Rattle.std.specs.Int.RustNames.{unsigned_abs}
use lib.IntN.{ℤ}
use Rattle.ts_text.specs.declared.edit.Edit.{Edit}
use Rattle.spec_trees.specs.declared.tree.Tree.{Tree}
use Rattle.spec_trees.specs.Trees.{children_of, span_of, all_spans, is_settled, total_of, node_count}
use Rattle.spec_trees.specs.Made.{IsNode, node_limit, most_span, most_depth}
use Rattle.spec_trees.specs.Inside.{IsNodeIn}
use Rattle.spec_trees.specs.Inside as nodes
use Rattle.spec_reuse.specs.Places.{IsIn, here, inside, later, IsInTree, IsWhole, lead_of}
use Rattle.spec_reuse.specs.Changes.{moved, IsEditOver}
use Rattle.spec_reuse.specs.Marked.{marked_below, all_marked, marked}
use Rattle.ts_marks.specs.Parts.{AreOrdered}
use Rattle.ts_marks.proofs.RemadeLemmas.{edit_ordered}
use Rattle.ts_marks.proofs.ElementLemmas.{SaysOfElements, elements_say}
use Rattle.spec_marked.specs.Laws.{MarkedLaws}
use Rattle.spec_marked.proofs.MovedLemmas.{moved_rises, moved_within}
use Rattle.spec_marked.proofs.LayerLemmas.{IsAsGreat, children_are, elements_are, total_is, span_is, spans_are, root_children, root_elements, root_total, root_unsettled, root_span, as_great, root_as_great}

-- ---- the place of a node

place_in : (ts : List Tree) (place k : ℕ) (u : Tree) → slice_get ts k ≡ Some u → (at : ℕ) × IsIn ts place u at
place_in [] place k u e = absurd (omega (arith, slice_get_within [] k u e))
place_in (t ∷ ts) place zero u e =
    let s : Some t ≡ Some u = e in
    let d : t ≡ u = cc in
    (place, subst (λ (x : Tree). IsIn (t ∷ ts) place x place) d (here t ts place))
place_in (t ∷ ts) place (suc k) u e =
    let r = place_in ts (place + span_of t) k u e in
    (r.0, later t ts place u r.0 r.1)

child_in : (xs : List Tree) (place : ℕ) (u : Tree) (at : ℕ) → IsIn xs place u at → (k : ℕ) (v : Tree) → slice_get (children_of u) k ≡ Some v → (deep : ℕ) × IsIn xs place v deep
child_in _ _ _ _ (here t ts place) k v e =
    let r = place_in (children_of t) place k v e in
    (r.0, inside t ts place v r.0 r.1)
child_in _ _ _ _ (inside t ts place u at h) k v e =
    let r = child_in (children_of t) place u at h k v e in
    (r.0, inside t ts place v r.0 r.1)
child_in _ _ _ _ (later t ts place u at h) k v e =
    let r = child_in ts (place + span_of t) u at h k v e in
    (r.0, later t ts place v r.0 r.1)

-- each node in a tree has a place there
place_of : (root u : Tree) → IsNodeIn root u → (at : ℕ) × IsInTree root u at
place_of root _ nodes.itself = (0, inl (refl, refl))
place_of root _ (nodes.inside u v k h e) = let p = place_of root u h in by p.0 p.1
  where
    by : (at : ℕ) → IsInTree root u at → (deep : ℕ) × IsInTree root v deep
    by at (inl w) =
        let r = place_in (children_of root) (lead_of root) k v (subst (λ (x : Tree). slice_get (children_of x) k ≡ Some v) w.0 e) in
        (r.0, inr r.1)
    by at (inr i) =
        let r = child_in (children_of root) (lead_of root) u at i k v e in
        (r.0, inr r.1)

node_in : (root : Tree) (xs : List Tree) (place : ℕ) (u : Tree) (at : ℕ) → IsIn xs place u at → ((k : ℕ) (t : Tree) → slice_get xs k ≡ Some t → IsNodeIn root t) → IsNodeIn root u
node_in root _ _ _ _ (here t ts place) all = all 0 t refl
node_in root _ _ _ _ (inside t ts place u at h) all = node_in root (children_of t) place u at h (λ k c e. nodes.inside t c k (all 0 t refl) e)
node_in root _ _ _ _ (later t ts place u at h) all = node_in root ts (place + span_of t) u at h (λ k c e. all (suc k) c e)

-- what has a place in a tree is a node in it
node_of : (root u : Tree) (at : ℕ) → IsInTree root u at → IsNodeIn root u
node_of root u at (inl w) = subst (λ (x : Tree). IsNodeIn root x) (sym w.0) nodes.itself
node_of root u at (inr h) = node_in root (children_of root) (lead_of root) u at h (λ k c e. nodes.inside root c k nodes.itself e)

-- ---- where the nodes of a marked tree come from

-- the node is what became of one in the tree
pub record CameFrom (e : Edit) (t u : Tree) : Type 0 where
  pub node : Tree
  pub place : ℕ
  pub there : IsNodeIn t node
  pub within : place + span_of node ≤ span_of t
  pub is : u ≡ marked_below e node place

child_came : (e : Edit) (t : Tree) (ts : List Tree) (from k : ℕ) (u : Tree) → ((j : ℕ) (c : Tree) → slice_get ts j ≡ Some c → IsNodeIn t c) → from + all_spans ts ≤ span_of t → slice_get (all_marked e ts from) k ≡ Some u → CameFrom e t u
child_came e t [] from k u all short at = absurd (omega (arith, slice_get_within [] k u at))
child_came e t (c ∷ cs) from zero u all short at =
    let s : Some (marked_below e c from) ≡ Some u = at in
    let d : u ≡ marked_below e c from = cc in
    record { node = c; place = from; there = all 0 c refl; within = omega (arith, short); is = d }
child_came e t (c ∷ cs) from (suc k) u all short at = child_came e t cs (from + span_of c) k u (λ j d h. all (suc j) d h) (omega (arith, short)) at

came : (e : Edit) (t m u : Tree) → IsWhole t → m ≡ marked e t → IsNodeIn m u → (u ≡ marked e t) ⊎ CameFrom e t u
came e t m _ w is nodes.itself = inl is
came e t m _ w is (nodes.inside u v k h at) = by (came e t m u w is h)
  where
    by : (u ≡ marked e t) ⊎ CameFrom e t u → (v ≡ marked e t) ⊎ CameFrom e t v
    by (inl r) =
        inr (child_came e t (children_of t) (lead_of t) k v (λ j c i. nodes.inside t c j nodes.itself i) (omega (arith, (w t nodes.itself).sized.within))
        (subst (λ (ts : List Tree). slice_get ts k ≡ Some v) (ap children_of r ∙ root_children e t) at))
    by (inr f) =
        inr (child_came e t (children_of f.node) f.place k v (λ j c i. nodes.inside f.node c j f.there i) (omega (arith, f.within, (w f.node f.there).sized.within))
        (subst (λ (ts : List Tree). slice_get ts k ≡ Some v) (ap children_of f.is ∙ children_are e f.node f.place) at))

-- ---- nodes that are not settled

-- a node that is not settled, as great as another one
node_like : (u t : Tree) → IsNode t → IsAsGreat u t → SaysOfElements u → total_of u ≡ total_of t → span_of u ≤ most_span → all_spans (children_of u) ≤ span_of u → is_settled u ≡ false → IsNode u
node_like u t n great says total short within loose = record {
  sized = record {
    few = subst (λ (m : ℕ). m < node_limit) (sym great.0) n.sized.few;
    short = short;
    within = within;
    shallow = subst (λ (m : ℕ). m ≤ most_depth) (sym great.1) n.sized.shallow;
  };
  counted = says.counted;
  modest = subst (λ (m : ℕ). unsigned_abs (total_of u) ≤ 2 ^ 31 * m) (sym great.0) (subst (λ (z : ℤ). unsigned_abs z ≤ 2 ^ 31 * node_count t) (sym total) n.modest);
  totalled = says.totalled;
  settled = λ s. absurd (true≢false (sym s ∙ loose));
  elements = says.elements;
}

below_node : (e : Edit) (t : Tree) (place most : ℕ) → AreOrdered 0 e.parts → IsWhole t → place + span_of t ≤ most → moved e most ≤ most_span → is_settled (marked_below e t place) ≡ false → IsNode (marked_below e t place)
below_node e t place most o w far short loose =
    let u : Tree = marked_below e t place in
    let n : IsNode t = w t nodes.itself in
    let c : children_of u ≡ all_marked e (children_of t) place = children_are e t place in
    let a : all_spans (children_of u) ≡ moved e (place + all_spans (children_of t)) - moved e place = ap all_spans c ∙ spans_are e (children_of t) place in
    let s : span_of u ≡ moved e (place + span_of t) - moved e place = span_is e t place in
    node_like u t n (as_great e t place)
    (elements_say e t u place o w (elements_are e t place) c (total_is e t place))
    (total_is e t place)
    (omega (arith, s, short, moved_rises e (place + span_of t) most far))
    (omega (arith, a, s, moved_rises e (place + all_spans (children_of t)) (place + span_of t) (omega (arith, n.sized.within))))
    loose

root_node : (e : Edit) (t : Tree) → AreOrdered 0 e.parts → IsWhole t → moved e (span_of t) ≤ most_span → IsNode (marked e t)
root_node e t o w short =
    let u : Tree = marked e t in
    let n : IsNode t = w t nodes.itself in
    let c : children_of u ≡ all_marked e (children_of t) (lead_of t) = root_children e t in
    let a : all_spans (children_of u) ≡ moved e (lead_of t + all_spans (children_of t)) - moved e (lead_of t) = ap all_spans c ∙ spans_are e (children_of t) (lead_of t) in
    let s : span_of u ≡ moved e (span_of t) = root_span e t in
    node_like u t n (root_as_great e t)
    (elements_say e t u (lead_of t) o w (root_elements e t) c (root_total e t))
    (root_total e t)
    (omega (arith, s, short))
    (omega (arith, a, s, moved_rises e (lead_of t + all_spans (children_of t)) (span_of t) (omega (arith, n.sized.within))))
    (root_unsettled e t)

-- the nodes in a node of a whole tree are nodes
through : (a b c : Tree) → IsNodeIn a b → IsNodeIn b c → IsNodeIn a c
through a b _ h nodes.itself = h
through a b c h (nodes.inside d _ k i e) = nodes.inside d c k (through a b d h i) e

whole_in : (t u : Tree) → IsWhole t → IsNodeIn t u → IsWhole u
whole_in t u w there v h = w v (through t u v there h)

-- ---- the whole tree

still_short : (e : Edit) (t : Tree) → IsEditOver (span_of t) e → moved e (span_of t) ≤ most_span
still_short e t over = omega (arith, moved_within over.text e (span_of t) over.in_range over.long, over.fits)

pub stays_whole : MarkedLaws → (e : Edit) (t : Tree) → IsWhole t → IsEditOver (span_of t) e → IsWhole (marked e t)
stays_whole laws e t w over u h = by (is_settled u) refl
  where
    by : (b : Bool) → is_settled u ≡ b → IsNode u
    by true s =
        let p = place_of (marked e t) u h in
        let was = laws.was_clear e t u p.0 w over p.1 s in
        w u (node_of t u was.place (inr was.there))
    by false s = ⊎_elim
        (λ r. subst (λ (x : Tree). IsNode x) (sym r) (root_node e t (edit_ordered (span_of t) e over) w (still_short e t over)))
        (λ f. subst (λ (x : Tree). IsNode x) (sym f.is)
        (below_node e f.node f.place (span_of t) (edit_ordered (span_of t) e over) (whole_in t f.node w f.there) f.within (still_short e t over) (sym (ap is_settled f.is) ∙ s)))
        (came e t (marked e t) u w refl h)
