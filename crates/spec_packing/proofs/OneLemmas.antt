-- There is one way to take a reduction's layers off a stack.
use Rattle.std.proofs.Common.{◌≡◌, ◌∙◌, sym, ap, refl, subst, ℕ, ◌+◌, suc, Bool, true, false, true≢false, List, [], ◌∷◌, ◌++◌, reverse, length, Option, Some, None, arith}
use Rattle.std.proofs.lemmas.List.{map-append, reverse-append, reverse-reverse}
use Rattle.ts_core.specs.declared.flat.FlatGrammar.{FlatGrammar}
use Rattle.ts_core.specs.declared.flat.Production.{Production}
use Rattle.spec_trees.specs.declared.tree.Tree.{Tree}
use Rattle.spec_trees.specs.Trees.{is_extra_node, bare}
use Rattle.spec_trees.specs.Made.{filling, BeginsFilled, reduced, form_of}
use Rattle.spec_runs.specs.Configurations.{AreExtras}
use Rattle.spec_packing.specs.Replacing.{depth_over}
use Rattle.spec_packing.specs.Packing.{PackedTree, packed_trees, packed_depths, IsPackedReduction}

apart : (t : PackedTree) → is_extra_node t.tree ≡ true → is_extra_node t.tree ≡ false → ⊥
apart t a b = true≢false (sym a ∙ b)

-- the extras in front of a list are told from what follows
split_once : (xs ys a b : List PackedTree) → AreExtras (packed_trees xs) → AreExtras (packed_trees ys) → BeginsFilled (packed_trees a) → BeginsFilled (packed_trees b) → xs ++ a ≡ ys ++ b → (xs ≡ ys) × (a ≡ b)
split_once [] [] a b ex ey fa fb e = (refl, e)
split_once [] (y ∷ ys) [] b ex ey fa fb e = absurd (let h : [] ≡ y ∷ (ys ++ b) = e in cc)
split_once [] (y ∷ ys) (c ∷ cs) b ex ey fa fb e =
    let h : c ≡ y = cc in absurd (apart y ey.0 (subst (λ (t : PackedTree). is_extra_node t.tree ≡ false) h fa))
split_once (x ∷ xs) [] a [] ex ey fa fb e = absurd (let h : x ∷ (xs ++ a) ≡ [] = e in cc)
split_once (x ∷ xs) [] a (c ∷ cs) ex ey fa fb e =
    let h : c ≡ x = cc in absurd (apart x ex.0 (subst (λ (t : PackedTree). is_extra_node t.tree ≡ false) h fb))
split_once (x ∷ xs) (y ∷ ys) a b ex ey fa fb e =
    let h : x ≡ y = cc in
    let t : xs ++ a ≡ ys ++ b = cc in
    let r = split_once xs ys a b ex.1 ey.1 fa fb t in
    let q : xs ≡ ys = r.0 in
    (cc, r.1)

-- of two beginnings of one list, one goes on from the other
data Longer (xs a ys b : List PackedTree) : Type 0 where
  second : (m : List PackedTree) → ys ≡ xs ++ m → a ≡ m ++ b → Longer xs a ys b
  first : (m : List PackedTree) → xs ≡ ys ++ m → b ≡ m ++ a → Longer xs a ys b

longer : (xs a ys b : List PackedTree) → xs ++ a ≡ ys ++ b → Longer xs a ys b
longer [] a ys b e = second ys refl e
longer (x ∷ xs) a [] b e = first (x ∷ xs) refl (sym e)
longer (x ∷ xs) a (y ∷ ys) b e = go (longer xs a ys b t)
  where
    h : x ≡ y
    h = cc

    t : xs ++ a ≡ ys ++ b
    t = cc

    go : Longer xs a ys b → Longer (x ∷ xs) a (y ∷ ys) b
    go (second m p q) = second m (let p' : ys ≡ xs ++ m = p in cc) q
    go (first m p q) = first m (let p' : xs ≡ ys ++ m = p in cc) q

filling_more : (l : PackedTree) (ts us : List Tree) (b : Bool) → is_extra_node l.tree ≡ b → length (filling (ts ++ us)) ≡ length (filling ts) + length (filling us)
    → length (filling (l.tree ∷ ts ++ us)) ≡ length (filling (l.tree ∷ ts)) + length (filling us)
filling_more l ts us true e h = rw e h
filling_more l ts us false e h = rw e (omega (arith, h))

filling_append : (ls ms : List PackedTree) → length (filling (packed_trees (ls ++ ms))) ≡ length (filling (packed_trees ls)) + length (filling (packed_trees ms))
filling_append [] ms = omega arith
filling_append (l ∷ ls) ms =
    let parts : packed_trees (ls ++ ms) ≡ packed_trees ls ++ packed_trees ms = map-append (λ (x : PackedTree). x.tree) ls ms in
    let less : length (filling (packed_trees ls ++ packed_trees ms)) ≡ length (filling (packed_trees ls)) + length (filling (packed_trees ms)) = ap (λ (ts : List Tree). length (filling ts)) (sym parts) ∙ filling_append ls ms in
    ap (λ (ts : List Tree). length (filling (l.tree ∷ ts))) parts ∙ filling_more l (packed_trees ls) (packed_trees ms) (is_extra_node l.tree) refl less

-- layers in front that fill no step, of which the first does, are none
none_more : (m ks : List PackedTree) → BeginsFilled (packed_trees (m ++ ks)) → length (filling (packed_trees (m ++ ks))) ≡ length (filling (packed_trees ks)) → m ≡ []
none_more [] ks h e = refl
none_more (t ∷ m) ks h e =
    absurd (let f = filling_append (t ∷ m) ks in
    let k : length (filling (packed_trees (t ∷ m))) ≡ suc (length (filling (packed_trees m))) = rw h refl in
    omega arith)

-- the children that go on from others, as many of which fill steps, are these
same_children : (ks js m : List PackedTree) → reverse js ≡ reverse ks ++ m → BeginsFilled (packed_trees js) → length (filling (packed_trees js)) ≡ length (filling (packed_trees ks)) → (js ≡ ks) × (m ≡ [])
same_children ks js m e h n =
    let js_are : js ≡ reverse m ++ ks = sym (reverse-reverse js) ∙ ap (λ (l : List PackedTree). reverse l) e ∙ reverse-append (reverse ks) m ∙ ap (λ (l : List PackedTree). reverse m ++ l) (reverse-reverse ks) in
    let none : reverse m ≡ [] = none_more (reverse m) ks (subst (λ (l : List PackedTree). BeginsFilled (packed_trees l)) js_are h) (subst (λ (l : List PackedTree). length (filling (packed_trees l)) ≡ length (filling (packed_trees ks))) js_are n) in
    (js_are ∙ ap (λ (l : List PackedTree). l ++ ks) none, sym (reverse-reverse m) ∙ ap (λ (l : List PackedTree). reverse l) none)

take_once : (ks js a b : List PackedTree) → reverse ks ++ a ≡ reverse js ++ b → BeginsFilled (packed_trees ks) → BeginsFilled (packed_trees js) → length (filling (packed_trees ks)) ≡ length (filling (packed_trees js)) → (ks ≡ js) × (a ≡ b)
take_once ks js a b e fk fj n = go (longer (reverse ks) a (reverse js) b e)
  where
    go : Longer (reverse ks) a (reverse js) b → (ks ≡ js) × (a ≡ b)
    go (second m p q) = let r = same_children ks js m p fj (sym n) in (sym r.0, q ∙ ap (λ (l : List PackedTree). l ++ b) r.1)
    go (first m p q) = let r = same_children js ks m p fk n in (r.0, sym (q ∙ ap (λ (l : List PackedTree). l ++ a) r.1))

same_pair : (a b : ℕ) (p q : Production) → ◌≡◌ {A = Option (ℕ × Production)} (Some (a, p)) (Some (b, q)) → (a ≡ b) × (p ≡ q)
same_pair a b p q e =
    let both : ◌≡◌ {A = ℕ × Production} (a, p) (b, q) = cc in (ap (λ (x : ℕ × Production). x.0) both, ap (λ (x : ℕ × Production). x.1) both)

same_after : (l k : List PackedTree) (n m : PackedTree) (a b : List PackedTree) → l ≡ k → n ≡ m → a ≡ b → l ++ n ∷ a ≡ k ++ m ∷ b
same_after l k n m a b e f h = cc

same_layer : (n m : PackedTree) → n.tree ≡ m.tree → n.depth ≡ m.depth → n ≡ m
same_layer n m e f =
    ap {B = PackedTree} (λ (t : Tree). record { tree = t; depth = n.depth }) e ∙ ap {B = PackedTree} (λ (d : ℕ). record { tree = m.tree; depth = d }) f

pub one_packed : (g : FlatGrammar) (number : ℕ) (stack : List PackedTree) (n m : PackedTree) (after other : List PackedTree) → IsPackedReduction g number stack n after → IsPackedReduction g number stack m other → (n ≡ m) × (after ≡ other)
one_packed g number stack n m after other x y =
    let s = split_once x.lifted y.lifted (reverse x.children ++ x.below) (reverse y.children ++ y.below) x.extras y.extras x.all_lifted y.all_lifted (sym x.stack_is ∙ y.stack_is) in
    let p : ◌≡◌ {A = Option (ℕ × Production)} (Some (x.left, x.production)) (Some (y.left, y.production)) = sym x.at ∙ y.at in
    let same = same_pair x.left y.left x.production y.production p in
    let count : length (filling (packed_trees x.children)) ≡ length (filling (packed_trees y.children)) = x.count ∙ ap (λ (q : Production). length q.steps) same.1 ∙ sym y.count in
    let t = take_once x.children y.children x.below y.below s.1 x.first_fills y.first_fills count in
    let tree : n.tree ≡ m.tree = x.tree_is ∙ ap (λ (ls : List PackedTree). bare (reduced g number 0 None (packed_trees ls))) t.0 ∙ sym y.tree_is in
    let depth : n.depth ≡ m.depth =
    x.depth_is ∙ ap (λ (l : ℕ). depth_over (form_of g l number) (packed_depths x.children)) same.0 ∙ ap (λ (ls : List PackedTree). depth_over (form_of g y.left number) (packed_depths ls)) t.0 ∙ sym y.depth_is in
    let node : n ≡ m = same_layer n m tree depth in
    (node, x.after_is ∙ same_after x.lifted y.lifted n m x.below y.below s.0 node t.1 ∙ sym y.after_is)
