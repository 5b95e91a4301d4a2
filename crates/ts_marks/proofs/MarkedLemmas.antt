-- What becomes of a tree at an edit, node by node.
use Rattle.std.proofs.Common.{◌≡◌, ℕ, zero, suc, ◌+◌, ◌-◌, ◌<◌, ◌≤◌, sym, ap, subst, ◌∙◌, refl, arith, Bool, true, false, not, ◌&&◌, List, [], ◌∷◌, ◌++◌, length, append_assoc, map, take, drop, set, slice_get, Some, All}
use Rattle.std.proofs.lemmas.List.Elements.{All-head, All-tail}
use Rattle.std.proofs.lemmas.Option.{slice_get_within}
use Rattle.ts_text.specs.declared.edit.Edit.{Edit}
use Rattle.spec_trees.specs.declared.tree.Tree.{Tree}
use Rattle.spec_trees.specs.declared.tree.Element.{Element}
use Rattle.spec_trees.specs.declared.tree.Tree.TheOpen.{Tree-F}
use Rattle.spec_trees.specs.declared.tree.Tree.TheViews.{roll-Tree, out-Tree, roll-out-Tree, out-roll-Tree}
use Rattle.spec_trees.specs.declared.tree.Tree.TheFolds.{para-roll-Tree, fold_out-Tree}
use Rattle.spec_trees.specs.Trees.{children_of, elements_of, pad_of, size_of, span_of, all_spans, node_extent, is_settled, total_of, node_count, nodes_step, all_nodes, tree_depth, depth_step, greatest_depth}
use Rattle.spec_trees.specs.Made.{IsNode, EndBy, reach_of, replaced}
use Rattle.spec_trees.specs.Inside.{IsNodeIn}
use Rattle.spec_trees.specs.Inside as nodes
use Rattle.spec_reuse.specs.Places.{IsWhole}
use Rattle.spec_reuse.specs.Changes.{is_met, moved}
use Rattle.spec_reuse.specs.Marked.{Marking, marked_step, marked_below, all_marked, marked_element, marked_elements}
use Rattle.ts_marks.specs.Parts.{AreOrdered}
use Rattle.ts_marks.specs.Passing.{AreDone}
use Rattle.ts_marks.proofs.MovedLemmas.{AreClear, moved_rises, clear, unmet, clear_inside, shifted}

-- ---- one node

-- a node as it becomes
abbrev layer : Edit → Tree → ℕ → Tree-F Tree
layer e t place = record (out-Tree t) {
  pad = moved e (place + pad_of t) - moved e place;
  size = moved e (place + span_of t) - moved e (place + pad_of t);
  settled = is_settled t && not (is_met e.parts place (node_extent t));
  elements = marked_elements e (elements_of t) (children_of t) place;
  children = all_marked e (children_of t) place;
}

firsts : (e : Edit) (ts : List Tree) → map (λ (c : Tree × Marking). c.0) (map (λ (t : Tree). (t, marked_below e t)) ts) ≡ ts
firsts e [] = refl
firsts e (t ∷ ts) = ap (λ (xs : List Tree). t ∷ xs) (firsts e ts)

pub marked_is : (e : Edit) (t : Tree) (place : ℕ) → marked_below e t place ≡ roll-Tree (layer e t place)
marked_is e t place =
    ap (λ (f : Marking). f place) (ap (marked_below e) (sym (roll-out-Tree t)) ∙ para-roll-Tree Marking (marked_step e) (out-Tree t))
    ∙ ap (λ (ks : List Tree). roll-Tree (record (layer e t place) { elements = marked_elements e (elements_of t) ks place })) (firsts e (children_of t))

out_is : (e : Edit) (t : Tree) (place : ℕ) → out-Tree (marked_below e t place) ≡ layer e t place
out_is e t place = ap out-Tree (marked_is e t place) ∙ out-roll-Tree (layer e t place)

pub settled_is : (e : Edit) (t : Tree) (place : ℕ) → is_settled (marked_below e t place) ≡ (is_settled t && not (is_met e.parts place (node_extent t)))
settled_is e t place = ap (λ (x : Tree-F Tree). x.settled) (out_is e t place)

pub children_are : (e : Edit) (t : Tree) (place : ℕ) → children_of (marked_below e t place) ≡ all_marked e (children_of t) place
children_are e t place = ap (λ (x : Tree-F Tree). x.children) (out_is e t place)

pub elements_are : (e : Edit) (t : Tree) (place : ℕ) → elements_of (marked_below e t place) ≡ marked_elements e (elements_of t) (children_of t) place
elements_are e t place = ap (λ (x : Tree-F Tree). x.elements) (out_is e t place)

pub total_is : (e : Edit) (t : Tree) (place : ℕ) → total_of (marked_below e t place) ≡ total_of t
total_is e t place = ap (λ (x : Tree-F Tree). x.dynamic) (out_is e t place)

pub span_is : (e : Edit) (t : Tree) (place : ℕ) → span_of (marked_below e t place) ≡ moved e (place + span_of t) - moved e place
span_is e t place =
    let p : pad_of (marked_below e t place) ≡ moved e (place + pad_of t) - moved e place = ap (λ (x : Tree-F Tree). x.pad) (out_is e t place) in
    let s : size_of (marked_below e t place) ≡ moved e (place + span_of t) - moved e (place + pad_of t) = ap (λ (x : Tree-F Tree). x.size) (out_is e t place) in
    omega (
      arith,
      p,
      s,
      moved_rises 0 e.parts place (place + pad_of t) (omega arith),
      moved_rises 0 e.parts (place + pad_of t) (place + span_of t) (omega arith),
    )

pub spans_are : (e : Edit) (ts : List Tree) (place : ℕ) → all_spans (all_marked e ts place) ≡ moved e (place + all_spans ts) - moved e place
spans_are e [] place =
    let p : place + 0 ≡ place = omega arith in
    let q : moved e (place + 0) ≡ moved e place = ap (moved e) p in
    omega (arith, q)
spans_are e (t ∷ ts) place =
    let p : place + span_of t + all_spans ts ≡ place + (span_of t + all_spans ts) = omega arith in
    let q : moved e (place + span_of t + all_spans ts) ≡ moved e (place + (span_of t + all_spans ts)) = ap (moved e) p in
    omega (
      arith,
      q,
      span_is e t place,
      spans_are e ts (place + span_of t),
      moved_rises 0 e.parts place (place + span_of t) (omega arith),
      moved_rises 0 e.parts (place + span_of t) (place + span_of t + all_spans ts) (omega arith),
    )

-- ---- as many nodes, and as deep

depth_is : (t : Tree) → tree_depth t ≡ 1 + greatest_depth (children_of t)
depth_is t = fold_out-Tree ℕ depth_step t

pub count_is : (t : Tree) → node_count t ≡ 1 + (length (elements_of t) + all_nodes (children_of t))
count_is t = fold_out-Tree ℕ nodes_step t

many_marked : (e : Edit) (es : List Element) (ks : List Tree) (place : ℕ) → length (marked_elements e es ks place) ≡ length es
many_marked e [] ks place = refl
many_marked e (d ∷ es) ks place = ap suc (many_marked e es (drop d.children ks) (place + all_spans (take d.children ks)))

abbrev pub Same : Tree → Tree → Type 0
Same t u = (node_count t ≡ node_count u) × (tree_depth t ≡ tree_depth u)

abbrev pub AllSame : List Tree → List Tree → Type 0
AllSame ts us = (all_nodes ts ≡ all_nodes us) × (greatest_depth ts ≡ greatest_depth us)

same_node : (e : Edit) (t : Tree) (place : ℕ) → AllSame (all_marked e (children_of t) place) (children_of t) → Same (marked_below e t place) t
same_node e t place h =
    let u : Tree = marked_below e t place in
    let c : children_of u ≡ all_marked e (children_of t) place = ap (λ (x : Tree-F Tree). x.children) (out_is e t place) in
    let l : length (elements_of u) ≡ length (elements_of t) = ap (λ (x : List Element). length x) (elements_are e t place) ∙ many_marked e (elements_of t) (children_of t) place in
    let n : all_nodes (children_of u) ≡ all_nodes (all_marked e (children_of t) place) = ap all_nodes c in
    let d : greatest_depth (children_of u) ≡ greatest_depth (all_marked e (children_of t) place) = ap greatest_depth c in
    (omega (arith, count_is u, count_is t, l, n, h.0), omega (arith, depth_is u, depth_is t, d, h.1))

same_list : (n : ℕ) (e : Edit) → ((t : Tree) (place : ℕ) → tree_depth t ≤ n → Same (marked_below e t place) t) → (ts : List Tree) (place : ℕ) → greatest_depth ts ≤ n → AllSame (all_marked e ts place) ts
same_list n e same [] place h = (refl, refl)
same_list n e same (t ∷ ts) place h =
    let a = same t place (omega (arith, h)) in
    let b = same_list n e same ts (place + span_of t) (omega (arith, h)) in
    (omega (arith, a.0, b.0), omega (arith, a.1, b.1))

same_by : (n : ℕ) (e : Edit) (t : Tree) (place : ℕ) → tree_depth t ≤ n → Same (marked_below e t place) t
same_by zero e t place h = absurd (omega (arith, h, depth_is t))
same_by (suc n) e t place h = same_node e t place (same_list n e (same_by n e) (children_of t) place (omega (arith, h, depth_is t)))

pub same_all : (e : Edit) (ts : List Tree) (place : ℕ) → AllSame (all_marked e ts place) ts
same_all e ts place = same_list (greatest_depth ts) e (same_by (greatest_depth ts) e) ts place (omega arith)

-- ---- what stays

deeper : (t c u : Tree) (k : ℕ) → slice_get (children_of t) k ≡ Some c → IsNodeIn c u → IsNodeIn t u
deeper t c _ k e nodes.itself = nodes.inside t c k nodes.itself e
deeper t c u k e (nodes.inside v _ j h f) = nodes.inside v u j (deeper t c v k e h) f

abbrev pub AllWhole : List Tree → Type 0
AllWhole ts = (k : ℕ) (t : Tree) → slice_get ts k ≡ Some t → IsWhole t

pub whole_children : (t : Tree) → IsWhole t → AllWhole (children_of t)
whole_children t w k c e u h = w u (deeper t c u k e h)

-- a layer with the fields that it has
same_layer : (o : Tree-F Tree) (pad size : ℕ) (settled : Bool) (elements : List Element) (children : List Tree) → pad ≡ o.pad → size ≡ o.size → settled ≡ o.settled → elements ≡ o.elements → children ≡ o.children → record o { pad = pad; size = size; settled = settled; elements = elements; children = children } ≡ o
same_layer o pad size settled elements children a b c f d = rw (a, b, c, f, d) refl

and_true : (b c : Bool) → c ≡ false → (b && not c) ≡ b
and_true true c h = rw h refl
and_true false c h = refl

-- elements whose examined ranges no part of the edit meets stay as they are
elements_stay : (e : Edit) (es : List Element) (ks : List Tree) (base extent off : ℕ) → off + reach_of es ks ≤ extent → AreClear e.parts base extent → marked_elements e es ks (base + off) ≡ es
elements_stay e [] ks base extent off h c = refl
elements_stay e (d ∷ es) ks base extent off h c =
    let n = all_spans (take d.children ks) in
    let m : is_met e.parts (base + off) d.extent ≡ false = unmet e.parts (base + off) d.extent (clear_inside e.parts base extent (base + off) d.extent (omega arith) (omega (arith, h)) c) in
    let own : marked_element e d (base + off) ≡ d = ap (λ (b : Bool). record d { settled = b }) (and_true d.settled (is_met e.parts (base + off) d.extent) m) in
    let p : base + off + n ≡ base + (off + n) = omega arith in
    let rest : marked_elements e es (drop d.children ks) (base + (off + n)) ≡ es = elements_stay e es (drop d.children ks) base extent (off + n) (omega (arith, h)) c in
    ap (λ (x : Element). x ∷ marked_elements e es (drop d.children ks) (base + off + n)) own
    ∙ ap (λ (q : ℕ). d ∷ marked_elements e es (drop d.children ks) q) p
    ∙ ap (λ (xs : List Element). d ∷ xs) rest

stays_node : (e : Edit) (t : Tree) (place : ℕ) → AreOrdered 0 e.parts → IsNode t → is_settled t ≡ true → AreClear e.parts place (node_extent t) → all_marked e (children_of t) place ≡ children_of t → marked_below e t place ≡ t
stays_node e t place o n s c same =
    let w = n.settled s in
    let p = shifted 0 e.parts place (node_extent t) (place + pad_of t) o c (omega arith) (omega arith) (omega (arith, w.past)) in
    let q = shifted 0 e.parts place (node_extent t) (place + span_of t) o c (omega arith) (omega arith) (omega (arith, w.past)) in
    let a : moved e (place + pad_of t) - moved e place ≡ pad_of t = omega (arith, p) in
    let b : moved e (place + span_of t) - moved e (place + pad_of t) ≡ size_of t = omega (arith, p, q) in
    let m : is_met e.parts place (node_extent t) ≡ false = unmet e.parts place (node_extent t) c in
    let d : (is_settled t && not (is_met e.parts place (node_extent t))) ≡ is_settled t = rw (m, s) refl in
    let z : place + 0 ≡ place = omega arith in
    let parts : marked_elements e (elements_of t) (children_of t) place ≡ elements_of t =
    subst (λ (q : ℕ). marked_elements e (elements_of t) (children_of t) q ≡ elements_of t) z (elements_stay e (elements_of t) (children_of t) place (node_extent t) 0 (omega (arith, w.reach)) c) in
    marked_is e t place
    ∙ ap roll-Tree (same_layer (out-Tree t) _ _ _ _ _ a b d parts same)
    ∙ roll-out-Tree t

stay_list : (n : ℕ) (e : Edit) → ((t : Tree) (place : ℕ) → tree_depth t ≤ n → IsWhole t → is_settled t ≡ true → AreClear e.parts place (node_extent t) → marked_below e t place ≡ t)
    → (ts : List Tree) (base extent off : ℕ) → greatest_depth ts ≤ n → AllWhole ts → All (λ child. is_settled child ≡ true) ts → EndBy extent off ts → AreClear e.parts base extent → all_marked e ts (base + off) ≡ ts
stay_list n e stay [] base extent off h w s b c = refl
stay_list n e stay (t ∷ ts) base extent off h w s b c =
    let own : marked_below e t (base + off) ≡ t =
    stay t (base + off) (omega (arith, h)) (w 0 t refl) (All-head (λ child. is_settled child ≡ true) t ts s)
    (clear_inside e.parts base extent (base + off) (node_extent t) (omega arith) (omega (arith, b.0)) c) in
    let p : base + off + span_of t ≡ base + (off + span_of t) = omega arith in
    let rest : all_marked e ts (base + (off + span_of t)) ≡ ts =
    stay_list n e stay ts base extent (off + span_of t) (omega (arith, h)) (λ k c i. w (suc k) c i) (All-tail (λ child. is_settled child ≡ true) t ts s) b.1 c in
    ap (λ (x : Tree). x ∷ all_marked e ts (base + off + span_of t)) own
    ∙ ap (λ (q : ℕ). t ∷ all_marked e ts q) p
    ∙ ap (λ (xs : List Tree). t ∷ xs) rest

stays_by : (n : ℕ) (e : Edit) (t : Tree) (place : ℕ) → AreOrdered 0 e.parts → tree_depth t ≤ n → IsWhole t → is_settled t ≡ true → AreClear e.parts place (node_extent t) → marked_below e t place ≡ t
stays_by zero e t place o h w s c = absurd (omega (arith, h, depth_is t))
stays_by (suc n) e t place o h w s c =
    let node : IsNode t = w t nodes.itself in
    let well = node.settled s in
    let z : place + 0 ≡ place = omega arith in
    let kids : all_marked e (children_of t) (place + 0) ≡ children_of t =
    stay_list n e (λ u q d x y v. stays_by n e u q o d x y v) (children_of t) place (node_extent t) 0 (omega (arith, h, depth_is t)) (whole_children t w) well.inner well.covers c in
    stays_node e t place o node s c (subst (λ (q : ℕ). all_marked e (children_of t) q ≡ children_of t) z kids)

-- settled nodes whose examined ranges no part of the edit meets stay as they are
pub stay_all : (e : Edit) (ts : List Tree) (place extent : ℕ) → AreOrdered 0 e.parts → AllWhole ts → All (λ child. is_settled child ≡ true) ts → EndBy extent 0 ts → AreClear e.parts place extent → all_marked e ts place ≡ ts
stay_all e ts place extent o w s b c =
    let z : place + 0 ≡ place = omega arith in
    subst (λ (q : ℕ). all_marked e ts q ≡ ts) z
    (stay_list (greatest_depth ts) e (λ u q d x y v. stays_by (greatest_depth ts) e u q o d x y v) ts place extent 0 (omega arith) w s b c)

-- a settled node that no part of the edit meets stays as it is
pub stays : (e : Edit) (t : Tree) (place : ℕ) → AreOrdered 0 e.parts → IsWhole t → is_settled t ≡ true → is_met e.parts place (node_extent t) ≡ false → marked_below e t place ≡ t
stays e t place o w s m = stays_by (tree_depth t) e t place o (omega arith) w s (clear e.parts place (node_extent t) m)

-- ---- children one after another

pub drop_at : {X : Type 0} (xs : List X) (k : ℕ) (x : X) → slice_get xs k ≡ Some x → drop k xs ≡ x ∷ drop (suc k) xs
drop_at [] k x e = let f : ⊥ = omega (arith, slice_get_within [] k x e) in elim f [ ]
drop_at (y ∷ ys) zero x e =
    let s : Some y ≡ Some x = e in
    let d : y ≡ x = cc in
    ap (λ z. z ∷ ys) d
drop_at (y ∷ ys) (suc k) x e = drop_at ys k x e

pub drop_next : {X : Type 0} (xs : List X) (k : ℕ) (x : X) → slice_get xs k ≡ Some x → drop k xs ≡ x ∷ drop (k + 1) xs
drop_next {X = X} xs k x e =
    let n : suc k ≡ k + 1 = omega arith in
    drop_at xs k x e ∙ ap (λ (j : ℕ). x ∷ drop j xs) n

pub spans_at : (ts : List Tree) (k : ℕ) (t : Tree) → slice_get ts k ≡ Some t → all_spans (drop k ts) ≡ span_of t + all_spans (drop (k + 1) ts)
spans_at ts k t e = ap all_spans (drop_next ts k t e)

set_after : (xs : List Tree) (y z : Tree) (ys : List Tree) (k : ℕ) → length xs ≡ k → set (xs ++ y ∷ ys) k z ≡ xs ++ z ∷ ys
set_after [] y z ys zero e = refl
set_after [] y z ys (suc k) e = absurd (omega (arith, e))
set_after (x ∷ xs) y z ys zero e = absurd (omega (arith, e))
set_after (x ∷ xs) y z ys (suc k) e = ap (λ (us : List Tree). x ∷ us) (set_after xs y z ys k (omega (arith, e)))

replaced_more : (changes : List (ℕ × Tree)) (k : ℕ) (t : Tree) (ts : List Tree) → replaced (changes ++ (k, t) ∷ []) ts ≡ set (replaced changes ts) k t
replaced_more [] k t ts = refl
replaced_more (c ∷ changes) k t ts = replaced_more changes k t (set ts c.0 c.1)

snoc_length : (xs : List Tree) (x : Tree) → length (xs ++ x ∷ []) ≡ length xs + 1
snoc_length [] x = omega arith
snoc_length (y ∷ xs) x = omega (arith, snoc_length xs x)

next_all : (edit : Edit) (ts done : List Tree) (base k place : ℕ) (c : Tree) → slice_get ts k ≡ Some c → all_marked edit ts base ≡ done ++ all_marked edit (drop k ts) place
    → all_marked edit ts base ≡ (done ++ marked_below edit c place ∷ []) ++ all_marked edit (drop (k + 1) ts) (place + span_of c)
next_all edit ts done base k place c e h = h
    ∙ ap (λ (us : List Tree). done ++ all_marked edit us place) (drop_next ts k c e)
    ∙ sym (append_assoc done (marked_below edit c place ∷ []) (all_marked edit (drop (k + 1) ts) (place + span_of c)))

-- a child that stays
pub one_shared : (edit : Edit) (ts : List Tree) (base : ℕ) (changes : List (ℕ × Tree)) (k place next : ℕ) (c : Tree) → AreDone edit ts base changes k place → slice_get ts k ≡ Some c → marked_below edit c place ≡ c → next ≡ place + span_of c
    → AreDone edit ts base changes (k + 1) next
one_shared edit ts base changes k place next c d e stays' n = record {
  done = d.done ++ c ∷ [];
  many = omega (arith, snoc_length d.done c, d.many);
  changed = d.changed ∙ ap (λ (us : List Tree). d.done ++ us) (drop_next ts k c e) ∙ sym (append_assoc d.done (c ∷ []) (drop (k + 1) ts));
  all = next_all edit ts d.done base k place c e d.all
      ∙ ap (λ (x : Tree). (d.done ++ x ∷ []) ++ all_marked edit (drop (k + 1) ts) (place + span_of c)) stays'
      ∙ ap (λ (q : ℕ). (d.done ++ c ∷ []) ++ all_marked edit (drop (k + 1) ts) q) (sym n);
}

-- a child that is made anew
pub one_changed : (edit : Edit) (ts : List Tree) (base : ℕ) (changes more : List (ℕ × Tree)) (k place next : ℕ) (c new : Tree) → AreDone edit ts base changes k place → slice_get ts k ≡ Some c → new ≡ marked_below edit c place → more ≡ changes ++ (k, new) ∷ [] → next ≡ place + span_of c
    → AreDone edit ts base more (k + 1) next
one_changed edit ts base changes more k place next c new d e is m n = record {
  done = d.done ++ new ∷ [];
  many = omega (arith, snoc_length d.done new, d.many);
  changed = ap (λ (cs : List (ℕ × Tree)). replaced cs ts) m
      ∙ replaced_more changes k new ts
      ∙ ap (λ (us : List Tree). set us k new) (d.changed ∙ ap (λ (us : List Tree). d.done ++ us) (drop_next ts k c e))
      ∙ set_after d.done c new (drop (k + 1) ts) k d.many
      ∙ sym (append_assoc d.done (new ∷ []) (drop (k + 1) ts));
  all = next_all edit ts d.done base k place c e d.all
      ∙ ap (λ (x : Tree). (d.done ++ x ∷ []) ++ all_marked edit (drop (k + 1) ts) (place + span_of c)) (sym is)
      ∙ ap (λ (q : ℕ). (d.done ++ new ∷ []) ++ all_marked edit (drop (k + 1) ts) q) (sym n);
}

greatest_in : (ts : List Tree) (k : ℕ) (c : Tree) → slice_get ts k ≡ Some c → tree_depth c ≤ greatest_depth ts
greatest_in [] k c e = let f : ⊥ = omega (arith, slice_get_within [] k c e) in elim f [ ]
greatest_in (t ∷ ts) zero c e =
    let s : Some t ≡ Some c = e in
    let d : tree_depth t ≡ tree_depth c = cc in
    omega (arith, d)
greatest_in (t ∷ ts) (suc k) c e = omega (arith, greatest_in ts k c e)

pub child_depth : (t : Tree) (k : ℕ) (c : Tree) → slice_get (children_of t) k ≡ Some c → tree_depth c < tree_depth t
child_depth t k c e = omega (arith, greatest_in (children_of t) k c e, depth_is t)
