-- The steps that children fill, by parts of the list of children.
use Rattle.std.proofs.Common.{◌≡◌, ℕ, zero, suc, ◌+◌, ◌-◌, ◌<◌, ◌≤◌, sym, ap, ◌∙◌, refl, arith, get_or, Bool, true, false, List, [], ◌∷◌, ◌++◌, length, take, drop, slice_get, Option, Some, None, length-append, length-take, length-drop, append_assoc}
use Rattle.ts_base.proofs.PlaceLemmas.{in_prefix}
use Rattle.std.proofs.lemmas.List.{take-append-le, drop-append-le, drop-drop}
use Rattle.std.proofs.Math.Seq.{drop-cons}
use Rattle.std.specs.Prelude.{if◌then◌else◌}
use Rattle.spec_trees.specs.declared.tree.Tree.{Tree}
use Rattle.spec_trees.specs.declared.tree.Element.{Element}
use Rattle.spec_trees.specs.declared.tree.Stretch.{Stretch}
use Rattle.ts_node.specs.Held.{joined_stretch}
use Rattle.spec_trees.specs.Trees.{is_extra_node}
use Rattle.spec_trees.specs.Made.{children_count, fills_from, fills_in}
use Rattle.ts_node.proofs.ElementLemmas.{blank}

-- ---- elements

length-fills : (n : ℕ) (ts : List Tree) → length (fills_from n ts) ≡ length ts
length-fills n [] = refl
length-fills n (t ∷ ts) = by (is_extra_node t) (length-fills n ts) (length-fills (suc n) ts)
  where
    by : (b : Bool) → length (fills_from n ts) ≡ length ts → length (fills_from (suc n) ts) ≡ length ts → length (if b then None ∷ fills_from n ts else Some n ∷ fills_from (suc n) ts) ≡ suc (length ts)
    by true p q = ap suc p
    by false p q = ap suc q

fills_in-append : (es more : List Element) (ts us : List Tree) → children_count es ≡ length ts → fills_in (es ++ more) (ts ++ us) ≡ fills_in es ts ++ fills_in more us
fills_in-append [] more [] us h = refl
fills_in-append [] more (t ∷ ts) us h = let f : ⊥ = omega (arith, h) in elim f [ ]
fills_in-append (e ∷ es) more ts us h =
    let a : e.children ≤ length ts = omega (arith, h) in
    let b : children_count es ≡ length (drop e.children ts) = omega (arith, h, length-drop e.children ts) in
    rw (take-append-le e.children ts us a, drop-append-le e.children ts us a, fills_in-append es more (drop e.children ts) us b)
    (sym (append_assoc (fills_from 0 (take e.children ts)) (fills_in es (drop e.children ts)) (fills_in more us)))

length-fills_in : (es : List Element) (ts : List Tree) → children_count es ≡ length ts → length (fills_in es ts) ≡ length ts
length-fills_in [] ts h = h
length-fills_in (e ∷ es) ts h =
    let a : e.children ≤ length ts = omega (arith, h) in
    let b : children_count es ≡ length (drop e.children ts) = omega (arith, h, length-drop e.children ts) in
    omega (arith, length-append (fills_from 0 (take e.children ts)) (fills_in es (drop e.children ts)), length-fills 0 (take e.children ts), length-fills_in es (drop e.children ts) b, length-take e.children ts, length-drop e.children ts)

-- a child of the first of two parts
pub fills_left : (es more : List Element) (ts us : List Tree) (k : ℕ) → children_count es ≡ length ts → k < length ts → slice_get (fills_in (es ++ more) (ts ++ us)) k ≡ slice_get (fills_in es ts) k
fills_left es more ts us k h within =
    ap (λ (xs : List (Option ℕ)). slice_get xs k) (fills_in-append es more ts us h)
    ∙ in_prefix (fills_in es ts) (fills_in more us) k (omega (arith, within, length-fills_in es ts h))

get-right : {X : Type 0} (xs ys : List X) (i : ℕ) → slice_get (xs ++ ys) (length xs + i) ≡ slice_get ys i
get-right {X = X} [] ys i = let n : length {A = X} [] + i ≡ i = omega arith in ap (slice_get ys) n
get-right (x ∷ xs) ys i = let n : length (x ∷ xs) + i ≡ suc (length xs + i) = omega arith in ap (slice_get (x ∷ (xs ++ ys))) n ∙ get-right xs ys i

-- a child of the second
pub fills_right : (es more : List Element) (ts us : List Tree) (k : ℕ) → children_count es ≡ length ts → length ts ≤ k → slice_get (fills_in (es ++ more) (ts ++ us)) k ≡ slice_get (fills_in more us) (k - length ts)
fills_right es more ts us k h past =
    let n : k ≡ length (fills_in es ts) + (k - length ts) = omega (arith, past, length-fills_in es ts h) in
    ap (λ (xs : List (Option ℕ)). slice_get xs k) (fills_in-append es more ts us h)
    ∙ ap (slice_get (fills_in es ts ++ fills_in more us)) n
    ∙ get-right (fills_in es ts) (fills_in more us) (k - length ts)

fills-take : (n m k : ℕ) (ts : List Tree) → k < m → slice_get (fills_from n (take m ts)) k ≡ slice_get (fills_from n ts) k
fills-take n zero k ts h = let f : ⊥ = omega (arith, h) in elim f [ ]
fills-take n (suc m) k [] h = refl
fills-take n (suc m) zero (t ∷ ts) h = by_extra (is_extra_node t)
  where
    by_extra : (b : Bool) → slice_get (if b then None ∷ fills_from n (take m ts) else Some n ∷ fills_from (suc n) (take m ts)) 0 ≡ slice_get (if b then None ∷ fills_from n ts else Some n ∷ fills_from (suc n) ts) 0
    by_extra true = refl
    by_extra false = refl
fills-take n (suc m) (suc k) (t ∷ ts) h = by_extra (is_extra_node t) (fills-take n m k ts (omega (arith, h))) (fills-take (suc n) m k ts (omega (arith, h)))
  where
    by_extra : (b : Bool) → slice_get (fills_from n (take m ts)) k ≡ slice_get (fills_from n ts) k → slice_get (fills_from (suc n) (take m ts)) k ≡ slice_get (fills_from (suc n) ts) k
        → slice_get (if b then None ∷ fills_from n (take m ts) else Some n ∷ fills_from (suc n) (take m ts)) (suc k) ≡ slice_get (if b then None ∷ fills_from n ts else Some n ∷ fills_from (suc n) ts) (suc k)
    by_extra true p q = p
    by_extra false p q = q

-- a child of the first of these elements
pub fills_first : (e : Element) (es : List Element) (ts : List Tree) (k : ℕ) → k < e.children → k < length ts → slice_get (fills_in (e ∷ es) ts) k ≡ slice_get (fills_from 0 ts) k
fills_first e es ts k h within =
    in_prefix (fills_from 0 (take e.children ts)) (fills_in es (drop e.children ts)) k (omega (arith, h, within, length-fills 0 (take e.children ts), length-take e.children ts))
    ∙ fills-take 0 e.children k ts h

-- a child past it
pub fills_past : (e : Element) (es : List Element) (ts : List Tree) (k : ℕ) → e.children ≤ k → e.children ≤ length ts → slice_get (fills_in (e ∷ es) ts) k ≡ slice_get (fills_in es (drop e.children ts)) (k - e.children)
fills_past e es ts k h within =
    let n : k ≡ length (fills_from 0 (take e.children ts)) + (k - e.children) = omega (arith, h, within, length-fills 0 (take e.children ts), length-take e.children ts) in
    ap (slice_get (fills_in (e ∷ es) ts)) n
    ∙ get-right (fills_from 0 (take e.children ts)) (fills_in es (drop e.children ts)) (k - e.children)

-- ---- parts of a run

pub fill_left : (s t w : Stretch) (k : ℕ) (x : Option ℕ) → joined_stretch s t ≡ w → children_count s.elements ≡ length s.children → k < length s.children → slice_get (fills_in s.elements s.children) k ≡ Some x → slice_get (fills_in w.elements w.children) k ≡ Some x
fill_left s t w k x e h within there =
    ap (λ (v : Stretch). slice_get (fills_in v.elements v.children) k) (sym e)
    ∙ fills_left s.elements t.elements s.children t.children k h within
    ∙ there

pub fill_right : (s t w : Stretch) (k : ℕ) (x : Option ℕ) → joined_stretch s t ≡ w → children_count s.elements ≡ length s.children → length s.children ≤ k → slice_get (fills_in t.elements t.children) (k - length s.children) ≡ Some x → slice_get (fills_in w.elements w.children) k ≡ Some x
fill_right s t w k x e h past there =
    ap (λ (v : Stretch). slice_get (fills_in v.elements v.children) k) (sym e)
    ∙ fills_right s.elements t.elements s.children t.children k h past
    ∙ there

-- ---- elements one after another

pub count_drop : (es : List Element) (i : ℕ) → i < length es → children_count (drop i es) ≡ (get_or es i blank).children + children_count (drop (i + 1) es)
count_drop es i there =
    let q : suc i ≡ i + 1 = omega arith in
    ap children_count (drop-cons es i blank there)
    ∙ ap (λ (j : ℕ). (get_or es i blank).children + children_count (drop j es)) q

-- within the element at hand
pub fill_element : (es : List Element) (ts : List Tree) (i from k : ℕ) (x : Option ℕ) → i < length es → from ≤ k → k < length ts → k - from < (get_or es i blank).children
    → slice_get (fills_from 0 (drop from ts)) (k - from) ≡ Some x → slice_get (fills_in (drop i es) (drop from ts)) (k - from) ≡ Some x
fill_element es ts i from k x there past within inside is =
    ap (λ (v : List Element). slice_get (fills_in v (drop from ts)) (k - from)) (drop-cons es i blank there)
    ∙ fills_first (get_or es i blank) (drop (suc i) es) (drop from ts) (k - from) inside (omega (arith, length-drop from ts, past, within))
    ∙ is

-- past it
pub skip_element : (es : List Element) (ts : List Tree) (i from k : ℕ) → i < length es → from + (get_or es i blank).children ≤ k → k < length ts
    → slice_get (fills_in (drop (i + 1) es) (drop (from + (get_or es i blank).children) ts)) (k - (from + (get_or es i blank).children)) ≡ slice_get (fills_in (drop i es) (drop from ts)) (k - from)
skip_element es ts i from k there past within =
    let c : ℕ = (get_or es i blank).children in
    let p : k - (from + c) ≡ k - from - c = omega arith in
    let q : i + 1 ≡ suc i = omega arith in
    sym (ap (λ (v : List Element). slice_get (fills_in v (drop from ts)) (k - from)) (drop-cons es i blank there)
    ∙ fills_past (get_or es i blank) (drop (suc i) es) (drop from ts) (k - from) (omega (arith, past)) (omega (arith, length-drop from ts, past, within))
    ∙ ap (λ (us : List Tree). slice_get (fills_in (drop (suc i) es) us) (k - from - c)) (drop-drop c from ts)
    ∙ ap (slice_get (fills_in (drop (suc i) es) (drop (from + c) ts))) (sym p)
    ∙ ap (λ (j : ℕ). slice_get (fills_in (drop j es) (drop (from + c) ts)) (k - (from + c))) (sym q))
