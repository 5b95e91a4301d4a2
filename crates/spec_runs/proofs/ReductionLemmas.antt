-- There is one way to take a reduction's trees off a stack.
use Rattle.std.proofs.Common.{◌≡◌, ◌∙◌, sym, ap, refl, subst, ℕ, ◌+◌, suc, Bool, true, false, true≢false, List, [], ◌∷◌, ◌++◌, reverse, length, Option, Some, None, arith}
use Rattle.std.proofs.lemmas.List.{reverse-append, reverse-reverse}
use Rattle.ts_core.specs.declared.flat.FlatGrammar.{FlatGrammar}
use Rattle.ts_core.specs.declared.flat.Production.{Production}
use Rattle.spec_trees.specs.declared.tree.Tree.{Tree}
use Rattle.spec_trees.specs.Trees.{is_extra_node, bare}
use Rattle.spec_trees.specs.Made.{filling, BeginsFilled, reduced}
use Rattle.spec_runs.specs.Configurations.{AreExtras, IsReduction}

apart : (t : Tree) → is_extra_node t ≡ true → is_extra_node t ≡ false → ⊥
apart t a b = true≢false (sym a ∙ b)

-- the extras in front of a list are told from what follows
pub split_once : (xs ys a b : List Tree) → AreExtras xs → AreExtras ys → BeginsFilled a → BeginsFilled b → xs ++ a ≡ ys ++ b → (xs ≡ ys) × (a ≡ b)
split_once [] [] a b ex ey fa fb e = (refl, e)
split_once [] (y ∷ ys) [] b ex ey fa fb e = absurd (let h : [] ≡ y ∷ (ys ++ b) = e in cc)
split_once [] (y ∷ ys) (c ∷ cs) b ex ey fa fb e =
    let h : c ≡ y = cc in absurd (apart y ey.0 (subst (λ (t : Tree). is_extra_node t ≡ false) h fa))
split_once (x ∷ xs) [] a [] ex ey fa fb e = absurd (let h : x ∷ (xs ++ a) ≡ [] = e in cc)
split_once (x ∷ xs) [] a (c ∷ cs) ex ey fa fb e =
    let h : c ≡ x = cc in absurd (apart x ex.0 (subst (λ (t : Tree). is_extra_node t ≡ false) h fb))
split_once (x ∷ xs) (y ∷ ys) a b ex ey fa fb e =
    let h : x ≡ y = cc in
    let t : xs ++ a ≡ ys ++ b = cc in
    let r = split_once xs ys a b ex.1 ey.1 fa fb t in
    let q : xs ≡ ys = r.0 in
    (cc, r.1)

-- of two beginnings of one list, one goes on from the other
pub data Longer (xs a ys b : List Tree) : Type 0 where
  second : (m : List Tree) → ys ≡ xs ++ m → a ≡ m ++ b → Longer xs a ys b
  first : (m : List Tree) → xs ≡ ys ++ m → b ≡ m ++ a → Longer xs a ys b

pub longer : (xs a ys b : List Tree) → xs ++ a ≡ ys ++ b → Longer xs a ys b
longer [] a ys b e = second ys refl e
longer (x ∷ xs) a [] b e = first (x ∷ xs) refl (sym e)
longer (x ∷ xs) a (y ∷ ys) b e = go (longer xs a ys b t)
  where
    h : x ≡ y
    h = cc

    t : xs ++ a ≡ ys ++ b
    t = cc

    go : Longer xs a ys b → Longer (x ∷ xs) a (y ∷ ys) b
    go (second m p q) = second m (let p' : ys ≡ xs ++ m = p in cc) q
    go (first m p q) = first m (let p' : xs ≡ ys ++ m = p in cc) q

filling_more : (t : Tree) (ts us : List Tree) (b : Bool) → is_extra_node t ≡ b → length (filling (ts ++ us)) ≡ length (filling ts) + length (filling us)
    → length (filling (t ∷ ts ++ us)) ≡ length (filling (t ∷ ts)) + length (filling us)
filling_more t ts us true e h = rw e h
filling_more t ts us false e h = rw e (omega (arith, h))

pub filling_append : (ts us : List Tree) → length (filling (ts ++ us)) ≡ length (filling ts) + length (filling us)
filling_append [] us = omega arith
filling_append (t ∷ ts) us = filling_more t ts us (is_extra_node t) refl (filling_append ts us)

-- trees in front that fill no step, of which the first does, are none
none_more : (m ks : List Tree) → BeginsFilled (m ++ ks) → length (filling (m ++ ks)) ≡ length (filling ks) → m ≡ []
none_more [] ks h e = refl
none_more (t ∷ m) ks h e =
    absurd (let f = filling_append (t ∷ m) ks in
    let k : length (filling (t ∷ m)) ≡ suc (length (filling m)) = rw h refl in
    omega arith)

-- the children that go on from others, as many of which fill steps, are these
same_children : (ks js m : List Tree) → reverse js ≡ reverse ks ++ m → BeginsFilled js → length (filling js) ≡ length (filling ks) → (js ≡ ks) × (m ≡ [])
same_children ks js m e h n =
    let js_are : js ≡ reverse m ++ ks = sym (reverse-reverse js) ∙ ap (λ (l : List Tree). reverse l) e ∙ reverse-append (reverse ks) m ∙ ap (λ (l : List Tree). reverse m ++ l) (reverse-reverse ks) in
    let none : reverse m ≡ [] = none_more (reverse m) ks (subst (λ (l : List Tree). BeginsFilled l) js_are h) (subst (λ (l : List Tree). length (filling l) ≡ length (filling ks)) js_are n) in
    (js_are ∙ ap (λ (l : List Tree). l ++ ks) none, sym (reverse-reverse m) ∙ ap (λ (l : List Tree). reverse l) none)

pub take_once : (ks js a b : List Tree) → reverse ks ++ a ≡ reverse js ++ b → BeginsFilled ks → BeginsFilled js → length (filling ks) ≡ length (filling js) → (ks ≡ js) × (a ≡ b)
take_once ks js a b e fk fj n = go (longer (reverse ks) a (reverse js) b e)
  where
    go : Longer (reverse ks) a (reverse js) b → (ks ≡ js) × (a ≡ b)
    go (second m p q) = let r = same_children ks js m p fj (sym n) in (sym r.0, q ∙ ap (λ (l : List Tree). l ++ b) r.1)
    go (first m p q) = let r = same_children js ks m p fk n in (r.0, sym (q ∙ ap (λ (l : List Tree). l ++ a) r.1))

same_second : (a b : ℕ) (p q : Production) → ◌≡◌ {A = Option (ℕ × Production)} (Some (a, p)) (Some (b, q)) → p ≡ q
same_second a b p q e =
    let both : ◌≡◌ {A = ℕ × Production} (a, p) (b, q) = cc in ap (λ (x : ℕ × Production). x.1) both

same_after : (l k : List Tree) (n m : Tree) (a b : List Tree) → l ≡ k → n ≡ m → a ≡ b → l ++ n ∷ a ≡ k ++ m ∷ b
same_after l k n m a b e f h = cc

pub one_reduction : (g : FlatGrammar) (number : ℕ) (stack : List Tree) (n m : Tree) (after other : List Tree) → IsReduction g number stack n after → IsReduction g number stack m other → (n ≡ m) × (after ≡ other)
one_reduction g number stack n m after other x y =
    let s = split_once x.lifted y.lifted (reverse x.children ++ x.below) (reverse y.children ++ y.below) x.extras y.extras x.all_lifted y.all_lifted (sym x.stack_is ∙ y.stack_is) in
    let p : ◌≡◌ {A = Option (ℕ × Production)} (Some (x.left, x.production)) (Some (y.left, y.production)) = sym x.at ∙ y.at in
    let same : x.production ≡ y.production = same_second x.left y.left x.production y.production p in
    let count : length (filling x.children) ≡ length (filling y.children) = x.count ∙ ap (λ (q : Production). length q.steps) same ∙ sym y.count in
    let t = take_once x.children y.children x.below y.below s.1 x.first_fills y.first_fills count in
    let node : n ≡ m = x.node_is ∙ ap (λ (ts : List Tree). bare (reduced g number 0 None ts)) t.0 ∙ sym y.node_is in
    (node, x.after_is ∙ same_after x.lifted y.lifted n m x.below y.below s.0 node t.1 ∙ sym y.after_is)
