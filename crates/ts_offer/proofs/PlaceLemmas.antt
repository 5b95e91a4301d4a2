-- Nodes in trees that stand one after another, and their places.
use Rattle.std.proofs.Common.{◌≡◌, ℕ, zero, suc, ◌+◌, ◌<◌, ◌≤◌, ◌⊎◌, inl, inr, sym, ap, subst, ◌∙◌, refl, arith, List, [], ◌∷◌, length, drop, slice_get, Some}
use Rattle.std.proofs.lemmas.List.{drop_all}
use Rattle.std.proofs.lemmas.Option.{slice_get_within}
use Rattle.spec_trees.specs.declared.tree.Tree.{Tree}
use Rattle.spec_trees.specs.declared.tree.Tree.TheFolds.{fold_out-Tree}
use Rattle.spec_trees.specs.Trees.{children_of, span_of, all_spans, tree_depth, depth_step, greatest_depth}
use Rattle.spec_trees.specs.Inside.{IsNodeIn}
use Rattle.spec_trees.specs.Inside as nodes
use Rattle.spec_reuse.specs.Places.{IsIn, here, inside, later, IsWhole}

-- ---- lists

pub drop_at : {X : Type 0} (xs : List X) (k : ℕ) (x : X) → slice_get xs k ≡ Some x → drop k xs ≡ x ∷ drop (suc k) xs
drop_at [] k x e = let f : ⊥ = omega (arith, slice_get_within [] k x e) in elim f [ ]
drop_at (y ∷ ys) zero x e =
    let s : Some y ≡ Some x = e in
    let d : y ≡ x = cc in
    ap (λ z. z ∷ ys) d
drop_at (y ∷ ys) (suc k) x e = drop_at ys k x e

pub spans_at : (ts : List Tree) (k : ℕ) (t : Tree) → slice_get ts k ≡ Some t → all_spans (drop k ts) ≡ span_of t + all_spans (drop (suc k) ts)
spans_at ts k t e = ap all_spans (drop_at ts k t e)

pub spans_next : (ts : List Tree) (k : ℕ) (t : Tree) → slice_get ts k ≡ Some t → all_spans (drop k ts) ≡ span_of t + all_spans (drop (k + 1) ts)
spans_next ts k t e =
    let n : suc k ≡ k + 1 = omega arith in
    spans_at ts k t e ∙ ap (λ (j : ℕ). span_of t + all_spans (drop j ts)) n

pub spans_ended : (ts : List Tree) (k : ℕ) → length ts ≤ k → all_spans (drop k ts) ≡ 0
spans_ended ts k h = ap all_spans (drop_all k ts h)

pub spans_drop : (k : ℕ) (ts : List Tree) → all_spans (drop k ts) ≤ all_spans ts
spans_drop zero ts = omega arith
spans_drop (suc k) [] = omega arith
spans_drop (suc k) (t ∷ ts) = omega (arith, spans_drop k ts)

-- ---- nodes in whole trees

deeper : (t c u : Tree) (k : ℕ) → slice_get (children_of t) k ≡ Some c → IsNodeIn c u → IsNodeIn t u
deeper t c _ k e nodes.itself = nodes.inside t c k nodes.itself e
deeper t c u k e (nodes.inside v _ j h f) = nodes.inside v u j (deeper t c v k e h) f

-- each of them is whole
abbrev pub AllWhole : List Tree → Type 0
AllWhole ts = (k : ℕ) (t : Tree) → slice_get ts k ≡ Some t → IsWhole t

pub whole_children : (t : Tree) → IsWhole t → AllWhole (children_of t)
whole_children t w k c e u h = w u (deeper t c u k e h)

pub whole_one : (t : Tree) → IsWhole t → AllWhole (t ∷ [])
whole_one t w zero c e =
    let s : Some t ≡ Some c = e in
    let d : t ≡ c = cc in
    subst IsWhole d w
whole_one t w (suc k) c e = let f : ⊥ = omega (arith, slice_get_within [] k c e) in elim f [ ]

pub whole_tail : (t : Tree) (ts : List Tree) → AllWhole (t ∷ ts) → AllWhole ts
whole_tail t ts w k c e = w (suc k) c e

pub whole_drop : (k : ℕ) (ts : List Tree) → AllWhole ts → AllWhole (drop k ts)
whole_drop zero ts w = w
whole_drop (suc k) [] w = w
whole_drop (suc k) (t ∷ ts) w = whole_drop k ts (whole_tail t ts w)

-- ---- where nodes lie

pub lie : (ts : List Tree) (place : ℕ) (u : Tree) (at : ℕ) → AllWhole ts → IsIn ts place u at → (place ≤ at) × (at + span_of u ≤ place + all_spans ts)
lie _ place _ _ w (here t ts _) = (omega arith, omega arith)
lie _ place u at w (inside t ts _ _ _ h) =
    let whole : IsWhole t = w 0 t refl in
    let r = lie (children_of t) place u at (whole_children t whole) h in
    (omega (arith, r.0), omega (arith, r.1, (whole t nodes.itself).sized.within))
lie _ place u at w (later t ts _ _ _ h) =
    let r = lie ts (place + span_of t) u at (whole_tail t ts w) h in
    (omega (arith, r.0), omega (arith, r.1))

some_in : (ts : List Tree) (place : ℕ) (u : Tree) (at : ℕ) → IsIn ts place u at → 0 < length ts
some_in _ place _ _ (here t ts _) = omega arith
some_in _ place u at (inside t ts _ _ _ h) = omega arith
some_in _ place u at (later t ts _ _ _ h) = omega arith

pub none_in : (ts : List Tree) (place : ℕ) (u : Tree) (at : ℕ) → ts ≡ [] → IsIn ts place u at → ⊥
none_in ts place u at e h = let n : length ts ≡ 0 = ap (λ (xs : List Tree). length xs) e in omega (arith, n, some_in ts place u at h)

split_of : (xs : List Tree) (t : Tree) (ts : List Tree) (place : ℕ) (u : Tree) (at : ℕ) → xs ≡ t ∷ ts → IsIn xs place u at → IsIn (t ∷ []) place u at ⊎ IsIn ts (place + span_of t) u at
split_of _ t ts place _ _ e (here d ds _) =
    let f : d ≡ t = cc in
    subst (λ (x : Tree). IsIn (t ∷ []) place x place ⊎ IsIn ts (place + span_of t) x place) (sym f) (inl (here t [] place))
split_of _ t ts place u at e (inside d ds _ _ _ h) =
    let f : d ≡ t = cc in
    inl (inside t [] place u at (subst (λ (x : Tree). IsIn (children_of x) place u at) f h))
split_of _ t ts place u at e (later d ds _ _ _ h) =
    let f : d ≡ t = cc in
    let g : ds ≡ ts = cc in
    inr (subst (λ (x : Tree). IsIn ts (place + span_of x) u at) f (subst (λ (xs : List Tree). IsIn xs (place + span_of d) u at) g h))

pub split : (t : Tree) (ts : List Tree) (place : ℕ) (u : Tree) (at : ℕ) → IsIn (t ∷ ts) place u at → IsIn (t ∷ []) place u at ⊎ IsIn ts (place + span_of t) u at
split t ts place u at h = split_of (t ∷ ts) t ts place u at refl h

single_of : (xs : List Tree) (t : Tree) (place : ℕ) (u : Tree) (at : ℕ) → xs ≡ t ∷ [] → IsIn xs place u at → ((u ≡ t) × (at ≡ place)) ⊎ IsIn (children_of t) place u at
single_of _ t place _ _ e (here d ds _) = let f : d ≡ t = cc in inl (f, refl)
single_of _ t place u at e (inside d ds _ _ _ h) =
    let f : d ≡ t = cc in
    inr (subst (λ (x : Tree). IsIn (children_of x) place u at) f h)
single_of _ t place u at e (later d ds _ _ _ h) =
    let g : ds ≡ [] = cc in
    absurd (none_in ds (place + span_of d) u at g h)

pub single : (t : Tree) (place : ℕ) (u : Tree) (at : ℕ) → IsIn (t ∷ []) place u at → ((u ≡ t) × (at ≡ place)) ⊎ IsIn (children_of t) place u at
single t place u at h = single_of (t ∷ []) t place u at refl h

wide_of : (xs : List Tree) (t : Tree) (ts : List Tree) (place : ℕ) (u : Tree) (at : ℕ) → xs ≡ t ∷ [] → IsIn xs place u at → IsIn (t ∷ ts) place u at
wide_of _ t ts place _ _ e (here d ds _) =
    let f : d ≡ t = cc in
    subst (λ (x : Tree). IsIn (t ∷ ts) place x place) (sym f) (here t ts place)
wide_of _ t ts place u at e (inside d ds _ _ _ h) =
    let f : d ≡ t = cc in
    inside t ts place u at (subst (λ (x : Tree). IsIn (children_of x) place u at) f h)
wide_of _ t ts place u at e (later d ds _ _ _ h) =
    let g : ds ≡ [] = cc in
    absurd (none_in ds (place + span_of d) u at g h)

pub wide : (t : Tree) (ts : List Tree) (place : ℕ) (u : Tree) (at : ℕ) → IsIn (t ∷ []) place u at → IsIn (t ∷ ts) place u at
wide t ts place u at h = wide_of (t ∷ []) t ts place u at refl h

-- ---- depths

greatest_in : (ts : List Tree) (k : ℕ) (c : Tree) → slice_get ts k ≡ Some c → tree_depth c ≤ greatest_depth ts
greatest_in [] k c e = let f : ⊥ = omega (arith, slice_get_within [] k c e) in elim f [ ]
greatest_in (t ∷ ts) zero c e =
    let s : Some t ≡ Some c = e in
    let d : tree_depth t ≡ tree_depth c = cc in
    omega (arith, d)
greatest_in (t ∷ ts) (suc k) c e = omega (arith, greatest_in ts k c e)

pub child_depth : (t : Tree) (k : ℕ) (c : Tree) → slice_get (children_of t) k ≡ Some c → tree_depth c < tree_depth t
child_depth t k c e =
    let h : tree_depth c ≤ greatest_depth (children_of t) = greatest_in (children_of t) k c e in
    let d : tree_depth t ≡ 1 + greatest_depth (children_of t) = fold_out-Tree ℕ depth_step t in
    omega (arith, h, d)
