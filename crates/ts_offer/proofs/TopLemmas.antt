-- The topmost fit node among those that begin where a node begins.
use Rattle.std.proofs.Common.{◌≡◌, ℕ, zero, suc, ◌+◌, ◌<◌, ◌⊎◌, inl, inr, sym, ap, subst, refl, arith, List, [], ◌∷◌, drop, slice_get, Option, Some, None}
use Rattle.std.proofs.lemmas.Option.{slice_get_within}
use Rattle.spec_trees.specs.declared.tree.Tree.{Tree}
use Rattle.spec_trees.specs.Trees.{children_of, span_of, all_spans}
use Rattle.spec_reuse.specs.Places.{IsIn, here, inside, later, IsWhole, IsInTree, lead_of}
use Rattle.spec_reuse.specs.Offered.{IsFit, IsTopmost}
use Rattle.ts_offer.specs.Answers.{IsOfferAt}
use Rattle.ts_offer.specs.Ways.{IsFirst, IsFirstAt, IsTop, IsTopmostAt, IsNext}
use Rattle.ts_offer.specs.declared.way.Ahead.{Ahead}
use Rattle.ts_offer.proofs.PlaceLemmas.{lie, none_in, split, wide, whole_children, whole_one, AllWhole, whole_tail, spans_drop, child_depth}

-- a node among the first child with bytes and those after it
skip : (ts : List Tree) (k : ℕ) (c : Tree) (place : ℕ) (u : Tree) → AllWhole ts → slice_get ts k ≡ Some c → all_spans (drop k ts) ≡ all_spans ts → 0 < span_of c
    → IsIn ts place u place → 0 < span_of u → IsIn (c ∷ []) place u place
skip [] k c place u w e z some h n = absurd (none_in [] place u place refl h)
skip (t ∷ ts) zero c place u w e z some h n =
    let s : Some t ≡ Some c = e in
    let d : t ≡ c = cc in
    by d (split t ts place u place h)
  where
    by : t ≡ c → IsIn (t ∷ []) place u place ⊎ IsIn ts (place + span_of t) u place → IsIn (c ∷ []) place u place
    by d (inl i) = subst (λ (x : Tree). IsIn (x ∷ []) place u place) d i
    by d (inr i) =
        let r = lie ts (place + span_of t) u place (whole_tail t ts w) i in
        let q : span_of t ≡ span_of c = ap span_of d in
        absurd (omega (arith, r.0, q, some))
skip (t ∷ ts) (suc k) c place u w e z some h n = by (skip ts k c place u (whole_tail t ts w) e) (split t ts place u place h)
  where
    none : span_of t ≡ 0
    none = omega (arith, z, spans_drop k ts)

    by : (all_spans (drop k ts) ≡ all_spans ts → 0 < span_of c → IsIn ts place u place → 0 < span_of u → IsIn (c ∷ []) place u place)
        → IsIn (t ∷ []) place u place ⊎ IsIn ts (place + span_of t) u place → IsIn (c ∷ []) place u place
    by f (inl i) =
        let r = lie (t ∷ []) place u place (whole_one t (w 0 t refl)) i in
        absurd (omega (arith, r.1, none, n))
    by f (inr i) =
        let p : place + span_of t ≡ place = omega (arith, none) in
        f (omega (arith, z, none)) some (subst (λ (q : ℕ). IsIn ts q u place) p i) n

-- a node in a child with no bytes before it is among the children
among : (ts : List Tree) (k : ℕ) (c : Tree) (place : ℕ) (u : Tree) (at : ℕ) → slice_get ts k ≡ Some c → all_spans (drop k ts) ≡ all_spans ts → IsIn (c ∷ []) place u at → IsIn ts place u at
among [] k c place u at e z h = let f : ⊥ = omega (arith, slice_get_within [] k c e) in elim f [ ]
among (t ∷ ts) zero c place u at e z h =
    let s : Some t ≡ Some c = e in
    let d : c ≡ t = cc in
    wide t ts place u at (subst (λ (x : Tree). IsIn (x ∷ []) place u at) d h)
among (t ∷ ts) (suc k) c place u at e z h =
    let none : span_of t ≡ 0 = omega (arith, z, spans_drop k ts) in
    let p : place ≡ place + span_of t = omega (arith, none) in
    later t ts place u at (among ts k c (place + span_of t) u at e (omega (arith, z, none)) (subst (λ (q : ℕ). IsIn (c ∷ []) q u at) p h))

pub first_is : (t c : Tree) (k : ℕ) → IsWhole t → slice_get (children_of t) k ≡ Some c → all_spans (drop k (children_of t)) ≡ all_spans (children_of t) → 0 < span_of c → IsFirst t c
first_is t c k w e z some = record {
  falls = child_depth t k c e;
  there = λ u place h. inside t [] place u place (among (children_of t) k c place u place e z h);
  holds = λ u place h n. skip (children_of t) k c place u (whole_children t w) e z some h n;
}

pub none_with_bytes : (t : Tree) → IsWhole t → all_spans (children_of t) ≡ 0 → IsFirstAt t None
none_with_bytes t w z u place h n =
    let r = lie (children_of t) place u place (whole_children t w) h in
    omega (arith, r.1, z, n)

pub fit_is_top : (t : Tree) (state : ℕ) → IsFit state t → IsTop t state t
fit_is_top t state fit = record {
  there = λ place. here t [] place;
  fit = fit;
  top = λ u place h f. h;
}

-- ---- answers

root_alone : (root u : Tree) (at : ℕ) → at ≡ 0 → IsWhole root → 0 < span_of root → IsInTree root u at → IsIn (root ∷ []) at u at
root_alone root u at z w some (inl h) = subst (λ (x : Tree). IsIn (root ∷ []) at x at) (sym h.0) (here root [] at)
root_alone root u at z w some (inr h) =
    let r = lie (children_of root) (lead_of root) u at (whole_children root w) h in
    let l : lead_of root ≡ at = omega (arith, r.0, z) in
    inside root [] at u at (subst (λ (q : ℕ). IsIn (children_of root) q u at) l h)

pub root_answer : (root : Tree) (place state : ℕ) → IsWhole root → place ≡ 0 → IsFit state root → IsTopmost root place state root
root_answer root place state w zero' fit = record {
  there = inl (refl, zero');
  fit = fit;
  top = λ u h f. root_alone root u place zero' w fit.some h;
}

-- a fit node of the tree at a place stands below the root, where the root is not that node
inner_fit : (root : Tree) (place state : ℕ) → (place ≡ 0 → IsFit state root → ⊥) → (u : Tree) → IsInTree root u place → IsFit state u → IsIn (children_of root) (lead_of root) u place
inner_fit root place state unfit u (inl h) f = absurd (unfit h.1 (subst (λ (x : Tree). IsFit state x) h.0 f))
inner_fit root place state unfit u (inr h) f = h

pub ahead_later : (root : Tree) (place state : ℕ) (a : Ahead) → (place ≡ 0 → IsFit state root → ⊥) → IsNext root place a → (a.place ≡ place → ⊥) → IsOfferAt root place state None
ahead_later root place state a unfit next apart u h f =
    let i : IsIn (a.node.now ∷ []) a.place u place = next.holds u (inner_fit root place state unfit u h f) f.some in
    let r = lie (a.node.now ∷ []) a.place u place (whole_one a.node.now next.whole) i in
    apart (omega (arith, r.0, next.from))

pub ahead_here : (root : Tree) (place state : ℕ) (a : Ahead) (found : Option Tree) → (place ≡ 0 → IsFit state root → ⊥) → IsNext root place a → a.place ≡ place → IsTopmostAt a.node.now state found → IsOfferAt root place state found
ahead_here root place state a None unfit next at none = λ u h f.
    none u place (subst (λ (q : ℕ). IsIn (a.node.now ∷ []) q u place) at (next.holds u (inner_fit root place state unfit u h f) f.some)) f
ahead_here root place state a (Some x) unfit next at top = record {
  there = inr (next.there x place (subst (λ (q : ℕ). IsIn (a.node.now ∷ []) q x place) (sym at) (top.there place)));
  fit = top.fit;
  top = λ u h f. top.top u place (subst (λ (q : ℕ). IsIn (a.node.now ∷ []) q u place) at (next.holds u (inner_fit root place state unfit u h f) f.some)) f;
}

-- ---- what a trait's clauses ask

pub given : (tree : Tree) (place state : ℕ) (o : Option Tree) → IsOfferAt tree place state o → (t : Tree) → o ≡ Some t → IsTopmost tree place state t
given tree place state o a t e = subst (λ (x : Option Tree). IsOfferAt tree place state x) e a

pub told : (tree : Tree) (place state : ℕ) (o : Option Tree) → IsOfferAt tree place state o → (t : Tree) → Some tree ≡ Some t → IsOfferAt t place state o
told tree place state o a t e =
    let d : tree ≡ t = cc in
    subst (λ (x : Tree). IsOfferAt x place state o) d a
