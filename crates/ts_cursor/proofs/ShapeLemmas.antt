-- The depths of visible nodes: the root's is 0, each other node is at most one deeper than the one
-- before it, and so has a parent.
use Rattle.std.proofs.Common.{◌≡◌, ℕ, zero, suc, ◌+◌, ◌<◌, ◌≤◌, inl, inr, sym, ap, refl, subst, arith, Bool, true, false, List, [], ◌∷◌, ◌++◌, length, drop}
use Rattle.std.proofs.lemmas.Bool.{cases_lt}
use Rattle.ts_core.specs.declared.flat.FlatGrammar.{FlatGrammar}
use Rattle.spec_trees.specs.declared.tree.Tree.{Tree}
use Rattle.spec_trees.specs.declared.visible.VisibleNode.{VisibleNode}
use Rattle.spec_trees.specs.Trees.{symbol_of, production_of, elements_of, children_of, span_of, tree_depth, greatest_depth}
use Rattle.spec_trees.specs.VisibleNodes.{Marks, children_marks, first_marks, is_shown, with_field, showing, visible_nodes, root_marks}
use Rattle.spec_trees.specs.Family.{depth_at, IsParent}
use Rattle.ts_cursor.specs.Marked.{among, inner_nodes}
use Rattle.ts_cursor.specs.Linked.{DepthsRise, AreShallow}
use Rattle.ts_cursor.proofs.WalkLemmas.{depth_is, showing_shown, showing_hidden}

-- no node is less deep than the least, and none more than one deeper than the one before it
abbrev pub Rises : ℕ → ℕ → List VisibleNode → Type 0
Rises least last [] = Unit {0}
Rises least last (x ∷ xs) = (least ≤ x.depth) × ((x.depth ≤ suc last) × Rises least x.depth xs)

rises_append : (least last : ℕ) (xs ys : List VisibleNode) → least ≤ suc last → Rises least last xs → ((l : ℕ) → least ≤ suc l → Rises least l ys) → Rises least last (xs ++ ys)
rises_append least last [] ys h r f = f last h
rises_append least last (x ∷ xs) ys h r f = (r.0, (r.1.0, rises_append least x.depth xs ys (omega (arith, r.0)) r.1.1 f))

rises_less : (least last : ℕ) (xs : List VisibleNode) → Rises (suc least) last xs → Rises least last xs
rises_less least last [] r = tt
rises_less least last (x ∷ xs) r = (omega (arith, r.0), (r.1.0, rises_less least x.depth xs r.1.1))

among_rises : (g : FlatGrammar) (n : ℕ) → ((t : Tree) (depth place : ℕ) (fields : List ℕ) (m : Marks) (last : ℕ) → tree_depth t ≤ n → depth ≤ suc last → Rises depth last (showing g t depth place fields m))
    → (ts : List Tree) (ms : List Marks) (depth place : ℕ) (fields : List ℕ) (last : ℕ) → greatest_depth ts ≤ n → depth ≤ suc last → Rises depth last (among g ts ms depth place fields)
among_rises g n f [] ms depth place fields last h k = tt
among_rises g n f (t ∷ ts) ms depth place fields last h k =
    rises_append depth last (showing g t depth place fields (first_marks ms)) (among g ts (drop 1 ms) depth (place + span_of t) fields) k
    (f t depth place fields (first_marks ms) last (omega (arith, h)) k)
    (λ l j. among_rises g n f ts (drop 1 ms) depth (place + span_of t) fields l (omega (arith, h)) j)

showing_rises : (n : ℕ) (g : FlatGrammar) (t : Tree) (depth place : ℕ) (fields : List ℕ) (m : Marks) (last : ℕ) → tree_depth t ≤ n → depth ≤ suc last → Rises depth last (showing g t depth place fields m)
showing_rises zero g t depth place fields m last h k = absurd (omega (arith, h, depth_is t))
showing_rises (suc n) g t depth place fields m last h k = by (is_shown g (symbol_of t) m.alias) refl
    (λ d fs l j. among_rises g n (showing_rises n g) (children_of t) (children_marks g (symbol_of t) (production_of t) (elements_of t) (children_of t)) d place fs l (omega (arith, h, depth_is t)) j)
  where
    by : (b : Bool) → is_shown g (symbol_of t) m.alias ≡ b → ((d : ℕ) (fs : List ℕ) (l : ℕ) → d ≤ suc l → Rises d l (inner_nodes g t d place fs)) → Rises depth last (showing g t depth place fields m)
    by true e inner = subst (λ (vs : List VisibleNode). Rises depth last vs) (sym (showing_shown g t depth place fields m e)) (omega arith, (k, rises_less depth depth (inner_nodes g t (suc depth) place []) (inner (suc depth) [] depth (omega arith))))
    by false e inner = subst (λ (vs : List VisibleNode). Rises depth last vs) (sym (showing_hidden g t depth place fields m e)) (inner depth (with_field fields m.field) last k)

inner_rises : (g : FlatGrammar) (t : Tree) → Rises 1 0 (inner_nodes g t 1 0 [])
inner_rises g t = among_rises g (tree_depth t) (showing_rises (tree_depth t) g) (children_of t) (children_marks g (symbol_of t) (production_of t) (elements_of t) (children_of t)) 1 0 [] 0 (omega (arith, depth_is t)) (omega arith)

-- ---- what follows for the depths in a list

rises_at : (least last : ℕ) (xs : List VisibleNode) (i : ℕ) → Rises least last xs → suc i < length xs → depth_at xs (suc i) ≤ suc (depth_at xs i)
rises_at least last [] i r h = absurd (omega (arith, h))
rises_at least last (x ∷ []) i r h = absurd (omega (arith, h))
rises_at least last (x ∷ y ∷ xs) zero r h = r.1.1.1.0
rises_at least last (x ∷ y ∷ xs) (suc i) r h = rises_at least x.depth (y ∷ xs) i r.1.1 (omega (arith, h))

least_at : (least last : ℕ) (xs : List VisibleNode) (i : ℕ) → Rises least last xs → i < length xs → least ≤ depth_at xs i
least_at least last [] i r h = absurd (omega (arith, h))
least_at least last (x ∷ xs) zero r h = r.0
least_at least last (x ∷ xs) (suc i) r h = least_at least x.depth xs i r.1.1 (omega (arith, h))

-- the last of the first nodes that is less deep
find_up : (nodes : List VisibleNode) (k j : ℕ) → 0 < k → j ≤ k → ((i : ℕ) → j ≤ i → i < k → depth_at nodes k ≤ depth_at nodes i) → depth_at nodes 0 < depth_at nodes k → (m : ℕ) × IsParent nodes k m
find_up nodes k zero some h f deeper = absurd (omega (arith, f 0 (omega arith) some, deeper))
find_up nodes k (suc j) some h f deeper = elim (cases_lt (depth_at nodes j) (depth_at nodes k)) [
  | inl lt ↦ (j, record { earlier = omega (arith, h); above = lt; between = λ i over below. f i over below })
  | inr ge ↦ find_up nodes k j some (omega (arith, h)) (λ i over below. elim (cases_lt j i) [
    | inl more ↦ f i more below
    | inr less ↦ subst (λ (x : ℕ). depth_at nodes k ≤ depth_at nodes x) (let e : j ≡ i = omega (arith, over, less) in e) ge
  ]) deeper
]

-- a parent is one less deep where no node is more than one deeper than the one before it
one_less : (nodes : List VisibleNode) (k m : ℕ) → k < length nodes → ((i : ℕ) → suc i < length nodes → depth_at nodes (suc i) ≤ suc (depth_at nodes i)) → IsParent nodes k m → depth_at nodes k ≡ suc (depth_at nodes m)
one_less nodes k m within step p =
    let s : depth_at nodes (suc m) ≤ suc (depth_at nodes m) = step m (omega (arith, p.earlier, within)) in
    elim (cases_lt (suc m) k) [
      | inl lt ↦ omega (arith, s, p.above, p.between (suc m) (omega arith) lt)
      | inr ge ↦
          let e : suc m ≡ k = omega (arith, ge, p.earlier) in
          let d : depth_at nodes (suc m) ≡ depth_at nodes k = ap (λ (x : ℕ). depth_at nodes x) e in
          omega (arith, s, d, p.above)
    ]

pub has_some : (g : FlatGrammar) (t : Tree) → 0 < length (visible_nodes g t)
has_some g t = subst (λ (vs : List VisibleNode). 0 < length vs) (sym (showing_shown g t 0 0 [] (root_marks g (symbol_of t)) refl)) (omega arith)

pub root_first : (g : FlatGrammar) (t : Tree) → depth_at (visible_nodes g t) 0 ≡ 0
root_first g t = ap (λ (vs : List VisibleNode). depth_at vs 0) (showing_shown g t 0 0 [] (root_marks g (symbol_of t)) refl)

-- a node in a list with a parent, one less deep
abbrev pub HasParent : List VisibleNode → ℕ → Type 0
HasParent nodes k = (m : ℕ) × (IsParent nodes k m × (depth_at nodes k ≡ suc (depth_at nodes m)))

in_list : (x : VisibleNode) (xs : List VisibleNode) → x.depth ≡ 0 → Rises 1 0 xs → (k : ℕ) → 0 < k → k < length (x ∷ xs) → HasParent (x ∷ xs) k
in_list x xs root r zero some within = absurd (omega (arith, some))
in_list x xs root r (suc k) some within =
    let all : Rises 0 0 (x ∷ xs) = (omega arith, (omega (arith, root), subst (λ (l : ℕ). Rises 0 l xs) (sym root) (rises_less 0 0 xs r))) in
    let deeper : depth_at (x ∷ xs) 0 < depth_at (x ∷ xs) (suc k) = (let l : 1 ≤ depth_at xs k = least_at 1 0 xs k r (omega (arith, within)) in omega (arith, l, root)) in
    let p = find_up (x ∷ xs) (suc k) (suc k) some (omega arith) (λ i over below. absurd (omega (arith, over, below))) deeper in
    (p.0, (p.1, one_less (x ∷ xs) (suc k) p.0 within (λ i h. rises_at 0 0 (x ∷ xs) i all h) p.1))

pub has_parent : (g : FlatGrammar) (t : Tree) (k : ℕ) → 0 < k → k < length (visible_nodes g t) → HasParent (visible_nodes g t) k
has_parent g t k some within =
    let e = showing_shown g t 0 0 [] (root_marks g (symbol_of t)) refl in
    subst (λ (vs : List VisibleNode). HasParent vs k) (sym e) (in_list _ (inner_nodes g t 1 0 []) refl (inner_rises g t) k some (subst (λ (vs : List VisibleNode). k < length vs) e within))

rise_in : (x : VisibleNode) (xs : List VisibleNode) → x.depth ≡ 0 → Rises 1 0 xs → DepthsRise (x ∷ xs)
rise_in x xs root r k h =
    let all : Rises 0 0 (x ∷ xs) = (omega arith, (omega (arith, root), subst (λ (l : ℕ). Rises 0 l xs) (sym root) (rises_less 0 0 xs r))) in
    rises_at 0 0 (x ∷ xs) k all h

pub depths_rise : (g : FlatGrammar) (t : Tree) → DepthsRise (visible_nodes g t)
depths_rise g t =
    subst (λ (vs : List VisibleNode). DepthsRise vs) (sym (showing_shown g t 0 0 [] (root_marks g (symbol_of t)) refl)) (rise_in _ (inner_nodes g t 1 0 []) refl (inner_rises g t))

-- ---- no visible node is as deep as the tree

abbrev Shallow : ℕ → List VisibleNode → Type 0
Shallow room [] = Unit {0}
Shallow room (x ∷ xs) = (x.depth < room) × Shallow room xs

shallow_append : (room : ℕ) (xs ys : List VisibleNode) → Shallow room xs → Shallow room ys → Shallow room (xs ++ ys)
shallow_append room [] ys s r = r
shallow_append room (x ∷ xs) ys s r = (s.0, shallow_append room xs ys s.1 r)

shallow_more : (room more : ℕ) (xs : List VisibleNode) → room ≤ more → Shallow room xs → Shallow more xs
shallow_more room more [] h s = tt
shallow_more room more (x ∷ xs) h s = (omega (arith, h, s.0), shallow_more room more xs h s.1)

among_shallow : (g : FlatGrammar) (n : ℕ) → ((t : Tree) (depth place : ℕ) (fields : List ℕ) (m : Marks) → tree_depth t ≤ n → Shallow (depth + tree_depth t) (showing g t depth place fields m))
    → (ts : List Tree) (ms : List Marks) (depth place : ℕ) (fields : List ℕ) → greatest_depth ts ≤ n → Shallow (depth + greatest_depth ts) (among g ts ms depth place fields)
among_shallow g n f [] ms depth place fields h = tt
among_shallow g n f (t ∷ ts) ms depth place fields h =
    shallow_append (depth + greatest_depth (t ∷ ts)) (showing g t depth place fields (first_marks ms)) (among g ts (drop 1 ms) depth (place + span_of t) fields)
    (shallow_more (depth + tree_depth t) (depth + greatest_depth (t ∷ ts)) _ (omega arith) (f t depth place fields (first_marks ms) (omega (arith, h))))
    (shallow_more (depth + greatest_depth ts) (depth + greatest_depth (t ∷ ts)) _ (omega arith) (among_shallow g n f ts (drop 1 ms) depth (place + span_of t) fields (omega (arith, h))))

showing_shallow : (n : ℕ) (g : FlatGrammar) (t : Tree) (depth place : ℕ) (fields : List ℕ) (m : Marks) → tree_depth t ≤ n → Shallow (depth + tree_depth t) (showing g t depth place fields m)
showing_shallow zero g t depth place fields m h = absurd (omega (arith, h, depth_is t))
showing_shallow (suc n) g t depth place fields m h = by (is_shown g (symbol_of t) m.alias) refl
    (λ d fs. among_shallow g n (showing_shallow n g) (children_of t) (children_marks g (symbol_of t) (production_of t) (elements_of t) (children_of t)) d place fs (omega (arith, h, depth_is t)))
  where
    by : (b : Bool) → is_shown g (symbol_of t) m.alias ≡ b → ((d : ℕ) (fs : List ℕ) → Shallow (d + greatest_depth (children_of t)) (inner_nodes g t d place fs)) → Shallow (depth + tree_depth t) (showing g t depth place fields m)
    by true e inner = subst (λ (vs : List VisibleNode). Shallow (depth + tree_depth t) vs) (sym (showing_shown g t depth place fields m e))
        (omega (arith, depth_is t), shallow_more (suc depth + greatest_depth (children_of t)) (depth + tree_depth t) (inner_nodes g t (suc depth) place []) (omega (arith, depth_is t)) (inner (suc depth) []))
    by false e inner = subst (λ (vs : List VisibleNode). Shallow (depth + tree_depth t) vs) (sym (showing_hidden g t depth place fields m e))
        (shallow_more (depth + greatest_depth (children_of t)) (depth + tree_depth t) (inner_nodes g t depth place (with_field fields m.field)) (omega (arith, depth_is t)) (inner depth (with_field fields m.field)))

shallow_at : (room : ℕ) (xs : List VisibleNode) → Shallow room xs → AreShallow room xs
shallow_at room [] s k h = absurd (omega (arith, h))
shallow_at room (x ∷ xs) s zero h = s.0
shallow_at room (x ∷ xs) s (suc k) h = shallow_at room xs s.1 k (omega (arith, h))

pub depths_below : (g : FlatGrammar) (t : Tree) → AreShallow (tree_depth t) (visible_nodes g t)
depths_below g t =
    let n : 0 + tree_depth t ≡ tree_depth t = omega arith in
    shallow_at (tree_depth t) (visible_nodes g t) (subst (λ (r : ℕ). Shallow r (visible_nodes g t)) n (showing_shallow (tree_depth t) g t 0 0 [] (root_marks g (symbol_of t)) (omega arith)))
