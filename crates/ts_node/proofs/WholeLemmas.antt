-- All nodes in a tree are nodes where it is one and all those in its children are.
use Rattle.std.proofs.Common.{◌≡◌, ◌∙◌, ℕ, zero, suc, ◌+◌, ◌<◌, ◌⊎◌, inl, inr, sym, ap, subst, refl, arith, List, [], ◌∷◌, length, take, drop, Some, slice_get, get_or}
use Rattle.std.specs.Prelude.{All}
use Rattle.std.proofs.lemmas.Option.{slice_get_within}
use Rattle.std.proofs.lemmas.List.Elements.{All-head, All-tail, All-more}
use Rattle.spec_trees.specs.declared.tree.Tree.{Tree}
use Rattle.spec_trees.specs.Trees.{children_of}
use Rattle.spec_trees.specs.Made.{IsNode}
use Rattle.spec_trees.specs.Inside.{IsNodeIn}
use Rattle.spec_trees.specs.Inside as nodes
use Rattle.ts_node.specs.Held.{HoldsNodes}

-- a node in a child
record IsBelow (t u : Tree) : Type 0 where
  child : Tree
  place : ℕ
  there : slice_get (children_of t) place ≡ Some child
  inner : IsNodeIn child u

parts : (t u : Tree) → IsNodeIn t u → (u ≡ t) ⊎ IsBelow t u
parts t _ nodes.itself = inl refl
parts t v (nodes.inside u _ k h e) = by (parts t u h)
  where
    by : (u ≡ t) ⊎ IsBelow t u → (v ≡ t) ⊎ IsBelow t v
    by (inl d) = inr (record { child = v; place = k; there = subst (λ (x : Tree). slice_get (children_of x) k ≡ Some v) d e; inner = nodes.itself })
    by (inr b) = inr (record { child = b.child; place = b.place; there = b.there; inner = nodes.inside u v k b.inner e })

at : (ts : List Tree) (k : ℕ) (t : Tree) → All HoldsNodes ts → slice_get ts k ≡ Some t → HoldsNodes t
at [] k t a e = absurd (omega (arith, slice_get_within [] k t e))
at (s ∷ ts) zero t a e =
    let f : Some s ≡ Some t = e in
    let d : s ≡ t = cc in
    subst (λ (x : Tree). HoldsNodes x) d (All-head HoldsNodes s ts a)
at (s ∷ ts) (suc k) t a e = at ts k t (All-tail HoldsNodes s ts a) e

pub holds : (t : Tree) (ks : List Tree) → children_of t ≡ ks → IsNode t → All HoldsNodes ks → HoldsNodes t
holds t ks e n a u h = by (parts t u h)
  where
    by : (u ≡ t) ⊎ IsBelow t u → IsNode u
    by (inl d) = subst (λ (x : Tree). IsNode x) (sym d) n
    by (inr b) = at ks b.place b.child a (ap (λ (xs : List Tree). slice_get xs b.place) (sym e) ∙ b.there) u b.inner

pub whole_more : (ks : List Tree) (i : ℕ) (t : Tree) → i < length ks → t ≡ get_or ks i t → All HoldsNodes (take i ks) → HoldsNodes t → All HoldsNodes (take (i + 1) ks)
whole_more ks i t below is a h = All-more HoldsNodes ks i t below a (subst (λ (x : Tree). HoldsNodes x) is h)

pub drop_next : (ks : List Tree) (i : ℕ) (t : Tree) → i < length ks → t ≡ get_or ks i t → drop i ks ≡ t ∷ drop (i + 1) ks
drop_next ks i t below is =
    let n : suc i ≡ i + 1 = omega arith in
    by ks i below is ∙ ap (λ (k : ℕ). t ∷ drop k ks) n
  where
    by : (us : List Tree) (k : ℕ) → k < length us → t ≡ get_or us k t → drop k us ≡ t ∷ drop (suc k) us
    by [] k h e = absurd (omega (arith, h))
    by (u ∷ us) zero h e =
        let d : t ≡ u = e in
        ap (λ (x : Tree). x ∷ us) (sym d)
    by (u ∷ us) (suc k) h e = by us k (omega (arith, h)) e
