-- Where visible nodes lie: each in its parent, where each node of the tree stands over its children.
use Rattle.std.proofs.Common.{◌≡◌, ℕ, zero, suc, ◌+◌, ◌-◌, ◌<◌, ◌≤◌, inl, inr, sym, ap, ◌∙◌, refl, subst, arith, Bool, true, false, List, [], ◌∷◌, ◌++◌, length, drop, slice_get, Option, Some}
use Rattle.std.specs.Prelude.{option_map, unwrap_or}
use Rattle.std.proofs.lemmas.Bool.{cases_lt}
use Rattle.std.proofs.lemmas.Option.{slice_get_within}
use Rattle.ts_base.proofs.PlaceLemmas.{in_prefix}
use Rattle.ts_core.specs.declared.flat.FlatGrammar.{FlatGrammar}
use Rattle.spec_trees.specs.declared.tree.Tree.{Tree}
use Rattle.spec_trees.specs.declared.visible.VisibleNode.{VisibleNode}
use Rattle.spec_trees.specs.Trees.{symbol_of, production_of, elements_of, children_of, pad_of, size_of, span_of, all_spans, first_pad, tree_depth, greatest_depth}
use Rattle.spec_trees.specs.Inside.{IsNodeIn, itself, inside, SpansOver, StandsOver, StandOver}
use Rattle.spec_trees.specs.VisibleNodes.{Marks, children_marks, first_marks, is_shown, with_field, showing, visible_nodes, root_marks}
use Rattle.spec_trees.specs.Family.{depth_at, IsParent, LieInParents}
use Rattle.ts_cursor.specs.Marked.{among, inner_nodes}
use Rattle.ts_cursor.proofs.WalkLemmas.{depth_is, showing_shown, showing_hidden}

-- ---- lists of visible nodes

-- all nodes lie between two places, and are as deep as this
abbrev pub Between : ℕ → ℕ → ℕ → List VisibleNode → Type 0
Between depth low high [] = Unit {0}
Between depth low high (x ∷ xs) =
    (depth ≤ x.depth) × ((low ≤ x.start) × ((x.start ≤ x.end) × ((x.end ≤ high) × Between depth low high xs)))

-- the first node is just as deep as this
abbrev pub BeginsAt : ℕ → List VisibleNode → Type 0
BeginsAt depth [] = Unit {0}
BeginsAt depth (x ∷ xs) = x.depth ≡ depth

-- siblings and all below them
pub record Nest (depth low high : ℕ) (xs : List VisibleNode) : Type 0 where
  pub between : Between depth low high xs
  pub begins : BeginsAt depth xs
  pub inner : LieInParents xs

wider : (depth low high less more : ℕ) (xs : List VisibleNode) → less ≤ low → high ≤ more → Between depth low high xs → Between depth less more xs
wider depth low high less more [] l h b = tt
wider depth low high less more (x ∷ xs) l h b = (b.0, (omega (arith, l, b.1.0), (b.1.1.0, (omega (arith, h, b.1.1.1.0), wider depth low high less more xs l h b.1.1.1.1))))

shallower : (depth low high : ℕ) (xs : List VisibleNode) → Between (suc depth) low high xs → Between depth low high xs
shallower depth low high [] b = tt
shallower depth low high (x ∷ xs) b = (omega (arith, b.0), (b.1.0, (b.1.1.0, (b.1.1.1.0, shallower depth low high xs b.1.1.1.1))))

between_append : (depth low high : ℕ) (xs ys : List VisibleNode) → Between depth low high xs → Between depth low high ys → Between depth low high (xs ++ ys)
between_append depth low high [] ys b c = c
between_append depth low high (x ∷ xs) ys b c = (b.0, (b.1.0, (b.1.1.0, (b.1.1.1.0, between_append depth low high xs ys b.1.1.1.1 c))))

between_at : (depth low high : ℕ) (xs : List VisibleNode) (k : ℕ) (a : VisibleNode) → Between depth low high xs → slice_get xs k ≡ Some a → (low ≤ a.start) × (a.end ≤ high)
between_at depth low high [] k a b e = let f : ⊥ = omega (arith, slice_get_within {A = VisibleNode} [] k a e) in elim f [ ]
between_at depth low high (x ∷ xs) zero a b e =
    let s : Some x ≡ Some a = e in
    let x_is : x ≡ a = cc in
    subst (λ (v : VisibleNode). (low ≤ v.start) × (v.end ≤ high)) x_is (b.1.0, b.1.1.1.0)
between_at depth low high (x ∷ xs) (suc k) a b e = between_at depth low high xs k a b.1.1.1.1 e

deep_at : (depth low high : ℕ) (xs : List VisibleNode) (k : ℕ) → Between depth low high xs → k < length xs → depth ≤ depth_at xs k
deep_at depth low high [] k b h = absurd (omega (arith, h))
deep_at depth low high (x ∷ xs) zero b h = b.0
deep_at depth low high (x ∷ xs) (suc k) b h = deep_at depth low high xs k b.1.1.1.1 (omega (arith, h))

get_right : (xs ys : List VisibleNode) (k : ℕ) → slice_get (xs ++ ys) (length xs + k) ≡ slice_get ys k
get_right [] ys k = let n : 0 + k ≡ k = omega arith in ap (slice_get ys) n
get_right (x ∷ xs) ys k = let n : length (x ∷ xs) + k ≡ suc (length xs + k) = omega arith in ap (slice_get (x ∷ (xs ++ ys))) n ∙ get_right xs ys k

depth_left : (xs ys : List VisibleNode) (k : ℕ) → k < length xs → depth_at (xs ++ ys) k ≡ depth_at xs k
depth_left xs ys k h = ap (λ (o : Option VisibleNode). unwrap_or (option_map (λ (v : VisibleNode). v.depth) o) 0) (in_prefix xs ys k h)

depth_right : (xs ys : List VisibleNode) (k : ℕ) → depth_at (xs ++ ys) (length xs + k) ≡ depth_at ys k
depth_right xs ys k = ap (λ (o : Option VisibleNode). unwrap_or (option_map (λ (v : VisibleNode). v.depth) o) 0) (get_right xs ys k)

-- a parent in the first part
parent_left : (xs ys : List VisibleNode) (k m : ℕ) → k < length xs → IsParent (xs ++ ys) k m → IsParent xs k m
parent_left xs ys k m h p = record {
  earlier = p.earlier;
  above = omega (arith, p.above, depth_left xs ys k h, depth_left xs ys m (omega (arith, h, p.earlier)));
  between = λ i over below. omega (arith, p.between i over below, depth_left xs ys k h, depth_left xs ys i (omega (arith, h, below)));
}

-- a parent in the second part
parent_right : (xs ys : List VisibleNode) (k m : ℕ) → IsParent (xs ++ ys) (length xs + k) (length xs + m) → IsParent ys k m
parent_right xs ys k m p = record {
  earlier = omega (arith, p.earlier);
  above = omega (arith, p.above, depth_right xs ys k, depth_right xs ys m);
  between = λ i over below. omega (arith, p.between (length xs + i) (omega (arith, over)) (omega (arith, below)), depth_right xs ys k, depth_right xs ys i);
}

-- no parent of a node in the second part stands in the first
no_parent_over : (depth low high : ℕ) (xs ys : List VisibleNode) (k m : ℕ) → Between depth low high xs → BeginsAt depth ys → m < length xs → k < length ys → IsParent (xs ++ ys) (length xs + k) m → ⊥
no_parent_over depth low high xs [] k m b begins h j p = omega (arith, j)
no_parent_over depth low high xs (y ∷ ys) zero m b begins h j p =
    omega (arith, p.above, depth_left xs (y ∷ ys) m h, depth_right xs (y ∷ ys) 0, deep_at depth low high xs m b h, begins)
no_parent_over depth low high xs (y ∷ ys) (suc k) m b begins h j p =
    omega (arith, p.above, p.between (length xs + 0) (omega (arith, h)) (omega arith), depth_left xs (y ∷ ys) m h, depth_right xs (y ∷ ys) 0, deep_at depth low high xs m b h, begins)

begins_append : (depth : ℕ) (xs ys : List VisibleNode) → BeginsAt depth xs → BeginsAt depth ys → BeginsAt depth (xs ++ ys)
begins_append depth [] ys b c = c
begins_append depth (x ∷ xs) ys b c = b

nest_append : (depth low high : ℕ) (xs ys : List VisibleNode) → Nest depth low high xs → Nest depth low high ys → Nest depth low high (xs ++ ys)
nest_append depth low high xs ys n o = record {
  between = between_append depth low high xs ys n.between o.between;
  begins = begins_append depth xs ys n.begins o.begins;
  inner = λ k m a b p at_k at_m. elim (cases_lt k (length xs)) [
    | inl h ↦ n.inner k m a b (parent_left xs ys k m h p) (sym (in_prefix xs ys k h) ∙ at_k) (sym (in_prefix xs ys m (omega (arith, h, p.earlier))) ∙ at_m)
    | inr h ↦ elim (cases_lt m (length xs)) [
      | inl j ↦ absurd (far k m j h a p at_k)
      | inr j ↦ near k m a b h j p at_k at_m
    ]
  ];
}
  where
    far : (k m : ℕ) → m < length xs → length xs ≤ k → (a : VisibleNode) → IsParent (xs ++ ys) k m → slice_get (xs ++ ys) k ≡ Some a → ⊥
    far k m j h a p e =
        let d : length xs + (k - length xs) ≡ k = omega (arith, h) in
        let g : slice_get ys (k - length xs) ≡ Some a = sym (get_right xs ys (k - length xs)) ∙ ap (slice_get (xs ++ ys)) d ∙ e in
        no_parent_over depth low high xs ys (k - length xs) m n.between o.begins j (slice_get_within ys (k - length xs) a g) (subst (λ (i : ℕ). IsParent (xs ++ ys) i m) (sym d) p)

    near : (k m : ℕ) (a b : VisibleNode) → length xs ≤ k → length xs ≤ m → IsParent (xs ++ ys) k m → slice_get (xs ++ ys) k ≡ Some a → slice_get (xs ++ ys) m ≡ Some b → (b.start ≤ a.start) × (a.end ≤ b.end)
    near k m a b h j p at_k at_m =
        let d : length xs + (k - length xs) ≡ k = omega (arith, h) in
        let e : length xs + (m - length xs) ≡ m = omega (arith, j) in
        o.inner (k - length xs) (m - length xs) a b
        (parent_right xs ys (k - length xs) (m - length xs) (subst (λ (i : ℕ). IsParent (xs ++ ys) i (length xs + (m - length xs))) (sym d) (subst (λ (i : ℕ). IsParent (xs ++ ys) k i) (sym e) p)))
        (sym (get_right xs ys (k - length xs)) ∙ ap (slice_get (xs ++ ys)) d ∙ at_k)
        (sym (get_right xs ys (m - length xs)) ∙ ap (slice_get (xs ++ ys)) e ∙ at_m)

-- a node, and those in it
nest_cons : (depth low high : ℕ) (x : VisibleNode) (xs : List VisibleNode) → x.depth ≡ depth → low ≤ x.start → x.start ≤ x.end → x.end ≤ high → Nest (suc depth) x.start x.end xs → Nest depth low high (x ∷ xs)
nest_cons depth low high x xs d l w h n = record {
  between = (omega (arith, d), (l, (w, (h, wider depth x.start x.end low high xs l h (shallower depth x.start x.end xs n.between)))));
  begins = d;
  inner = inner;
}
  where
    inner : LieInParents (x ∷ xs)
    inner zero m a b p at_k at_m = absurd (omega (arith, p.earlier))
    inner (suc k) zero a b p at_k at_m =
        let s : Some x ≡ Some b = at_m in
        let x_is : x ≡ b = cc in
        let w : (x.start ≤ a.start) × (a.end ≤ x.end) = between_at (suc depth) x.start x.end xs k a n.between at_k in
        subst (λ (v : VisibleNode). (v.start ≤ a.start) × (a.end ≤ v.end)) x_is w
    inner (suc k) (suc m) a b p at_k at_m = n.inner k m a b (record { earlier = omega (arith, p.earlier); above = p.above; between = λ i over below. p.between (suc i) (omega (arith, over)) (omega (arith, below)) }) at_k at_m

nest_wider : (depth low high less more : ℕ) (xs : List VisibleNode) → less ≤ low → high ≤ more → Nest depth low high xs → Nest depth less more xs
nest_wider depth low high less more xs l h n = record { between = wider depth low high less more xs l h n.between; begins = n.begins; inner = n.inner }

nest_none : (depth low high : ℕ) → Nest depth low high []
nest_none depth low high = record { between = tt; begins = tt; inner = λ k m a b p at_k at_m. (let f : ⊥ = omega (arith, slice_get_within {A = VisibleNode} [] k a at_k) in elim f [ ]) }

-- ---- the nodes of a tree

pub within_child : (t c : Tree) (k : ℕ) → slice_get (children_of t) k ≡ Some c → (u : Tree) → IsNodeIn c u → IsNodeIn t u
within_child t c k e u itself = inside t c k itself e
within_child t c k e u (inside v w j i at) = inside v w j (within_child t c k e v i) at

among_nests : (g : FlatGrammar) (n : ℕ) → ((t : Tree) (depth place : ℕ) (fields : List ℕ) (m : Marks) → tree_depth t ≤ n → StandOver t → Nest depth (place + pad_of t) (place + span_of t) (showing g t depth place fields m))
    → (ts : List Tree) (ms : List Marks) (depth place : ℕ) (fields : List ℕ) → greatest_depth ts ≤ n → ((k : ℕ) (c : Tree) → slice_get ts k ≡ Some c → StandOver c) → Nest depth (place + first_pad ts) (place + all_spans ts) (among g ts ms depth place fields)
among_nests g n f [] ms depth place fields h over = nest_none depth (place + 0) (place + 0)
among_nests g n f (t ∷ ts) ms depth place fields h over =
    nest_append depth (place + pad_of t) (place + (span_of t + all_spans ts)) (showing g t depth place fields (first_marks ms)) (among g ts (drop 1 ms) depth (place + span_of t) fields)
    (nest_wider depth (place + pad_of t) (place + span_of t) (place + pad_of t) (place + (span_of t + all_spans ts)) _ (omega arith) (omega arith) (f t depth place fields (first_marks ms) (omega (arith, h)) (over 0 t refl)))
    (nest_wider depth (place + span_of t + first_pad ts) (place + span_of t + all_spans ts) (place + pad_of t) (place + (span_of t + all_spans ts)) _ (omega arith) (omega arith) (among_nests g n f ts (drop 1 ms) depth (place + span_of t) fields (omega (arith, h)) (λ k c e. over (suc k) c e)))

-- the children of a node lie within it
children_nest : (t : Tree) (depth place : ℕ) (xs : List VisibleNode) → StandsOver t → (children_of t ≡ [] → xs ≡ []) → Nest depth (place + first_pad (children_of t)) (place + all_spans (children_of t)) xs → Nest depth (place + pad_of t) (place + span_of t) xs
children_nest t depth place xs over none n = by (children_of t) refl
  where
    by : (ts : List Tree) → children_of t ≡ ts → Nest depth (place + pad_of t) (place + span_of t) xs
    by [] e = subst (λ (vs : List VisibleNode). Nest depth (place + pad_of t) (place + span_of t) vs) (sym (none e)) (nest_none depth (place + pad_of t) (place + span_of t))
    by (c ∷ cs) e =
        let o : (pad_of t ≡ pad_of c) × (all_spans (c ∷ cs) ≤ span_of t) = subst (λ (ts : List Tree). SpansOver (pad_of t) (span_of t) ts) e over in
        let m : Nest depth (place + pad_of c) (place + all_spans (c ∷ cs)) xs = subst (λ (ts : List Tree). Nest depth (place + first_pad ts) (place + all_spans ts) xs) e n in
        nest_wider depth (place + pad_of c) (place + all_spans (c ∷ cs)) (place + pad_of t) (place + span_of t) xs (omega (arith, o.0)) (omega (arith, o.1)) m

pub showing_nests : (n : ℕ) (g : FlatGrammar) (t : Tree) (depth place : ℕ) (fields : List ℕ) (m : Marks) → tree_depth t ≤ n → StandOver t → Nest depth (place + pad_of t) (place + span_of t) (showing g t depth place fields m)
showing_nests zero g t depth place fields m h over = absurd (omega (arith, h, depth_is t))
showing_nests (suc n) g t depth place fields m h over = by (is_shown g (symbol_of t) m.alias) refl
    (λ d fs. children_nest t d place (inner_nodes g t d place fs) (over t itself)
    (λ e. ap (λ (ts : List Tree). among g ts (children_marks g (symbol_of t) (production_of t) (elements_of t) (children_of t)) d place fs) e)
    (among_nests g n (showing_nests n g) (children_of t) (children_marks g (symbol_of t) (production_of t) (elements_of t) (children_of t)) d place fs (omega (arith, h, depth_is t)) (λ k c e u i. over u (within_child t c k e u i))))
  where
    by : (b : Bool) → is_shown g (symbol_of t) m.alias ≡ b → ((d : ℕ) (fs : List ℕ) → Nest d (place + pad_of t) (place + span_of t) (inner_nodes g t d place fs)) → Nest depth (place + pad_of t) (place + span_of t) (showing g t depth place fields m)
    by true e inner =
        let ends : place + pad_of t + size_of t ≡ place + span_of t = omega arith in
        subst (λ (vs : List VisibleNode). Nest depth (place + pad_of t) (place + span_of t) vs) (sym (showing_shown g t depth place fields m e))
        (nest_cons depth (place + pad_of t) (place + span_of t) _ (inner_nodes g t (suc depth) place []) refl (omega arith) (omega arith) (omega arith)
        (subst (λ (k : ℕ). Nest (suc depth) (place + pad_of t) k (inner_nodes g t (suc depth) place [])) (sym ends) (inner (suc depth) [])))
    by false e inner = subst (λ (vs : List VisibleNode). Nest depth (place + pad_of t) (place + span_of t) vs) (sym (showing_hidden g t depth place fields m e)) (inner depth (with_field fields m.field))

pub in_parent : (g : FlatGrammar) (t : Tree) → StandOver t → LieInParents (visible_nodes g t)
in_parent g t over = (showing_nests (tree_depth t) g t 0 0 [] (root_marks g (symbol_of t)) (omega arith) over).inner
