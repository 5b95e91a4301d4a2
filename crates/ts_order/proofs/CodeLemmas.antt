-- The code of a tree by its head, its children and its elements.
use Rattle.std.proofs.Common.{◌≡◌, ◌↔◌, ℕ, zero, suc, ◌+◌, ◌-◌, ◌<◌, ◌≤◌, ap, sym, ◌∙◌, refl, subst, arith, Bool, true, false, ◌&&◌, List, [], ◌∷◌, ◌++◌, length, map, take, drop, slice_get, Some, unwrap_or, inl, inr}
use Rattle.std.specs.List.{concat, list_all}
use Rattle.std.specs.declared.cmp.Ordering.{Ordering}
use Rattle.std.specs.declared.cmp.Ordering.TheVariants.{Less, Equal, Greater}
use Rattle.std.specs.Ordering.{nat_cmp, ordering_then, is_ne}
use Rattle.std.specs.Cmp.Lexicographic.{slice_cmp}
use Rattle.std.proofs.lemmas.Map.Lookups.{exact_bytes}
use Rattle.std.proofs.lemmas.List.{take-map, drop-map, drop-drop, length-map, take_all, drop_all}
use Rattle.std.proofs.lemmas.Option.{slice_get_within}
use Rattle.ts_core.specs.declared.flat.FlatGrammar.{FlatGrammar}
use Rattle.spec_grammar.specs.Symbols.{is_repetition}
use Rattle.spec_trees.specs.declared.tree.Tree.{Tree}
use Rattle.spec_trees.specs.declared.tree.Element.{Element}
use Rattle.spec_trees.specs.declared.tree.Tree.TheFolds.{fold-Tree, fold_out-Tree}
use Rattle.spec_trees.specs.Trees.{symbol_of, production_of, pad_of, size_of, elements_of, children_of, total_of, node_count, nodes_step, sum_of}
use Rattle.spec_trees.specs.Made.{children_count}
use Rattle.spec_trees.specs.Choice.{code_of, code_step, inner_code, element_codes, form_step, has_form, IsInForm, Better}
use Rattle.ts_order.specs.Compared.{Compares, count_by, count_in_code, head_of, codes_from, elements_code}
use Rattle.ts_order.proofs.CompareLemmas.{none, one, join, stop, go_on, whole, equal_is, equal_numbers, before_is}

-- ---- a node

-- what follows the head of a code
abbrev pub rest_by : List Element → List Tree → List ℕ
rest_by [] ts = concat (map code_of ts)
rest_by (e ∷ es) ts = element_codes (e ∷ es) (map code_of ts)

code_is : (t : Tree) → code_of t ≡ symbol_of t ∷ unwrap_or (production_of t) 0 ∷ pad_of t ∷ size_of t ∷ inner_code (elements_of t) (map code_of (children_of t))
code_is t = fold_out-Tree (List ℕ) code_step t

inner_is : (es : List Element) (ts : List Tree) → inner_code es (map code_of ts) ≡ count_by es ts ∷ rest_by es ts
inner_is [] ts = ap (λ (n : ℕ). n ∷ concat (map code_of ts)) (length-map ts code_of)
inner_is (e ∷ es) ts = refl

head_and_rest : (t : Tree) → code_of t ≡ head_of t ++ rest_by (elements_of t) (children_of t)
head_and_rest t =
    code_is t
    ∙ ap (λ (l : List ℕ). symbol_of t ∷ unwrap_or (production_of t) 0 ∷ pad_of t ∷ size_of t ∷ l) (inner_is (elements_of t) (children_of t))

rest_of_children : (es : List Element) (t : Tree) → length es ≡ 0 → rest_by es (children_of t) ≡ codes_from 0 (length (children_of t)) t
rest_of_children [] t n = ap (λ (ts : List Tree). concat (map code_of ts)) (sym (take_all (length (children_of t)) (children_of t) (omega arith)))
rest_of_children (e ∷ es) t n = let f : ⊥ = omega (arith, n) in elim f [ ]

rest_of_elements : (es : List Element) (ts : List Tree) → 0 < length es → rest_by es ts ≡ element_codes es (map code_of ts)
rest_of_elements [] ts n = let f : ⊥ = omega (arith, n) in elim f [ ]
rest_of_elements (e ∷ es) ts n = refl

-- ---- the heads of two nodes

pub heads_differ : (a b : Tree) (r : Ordering) → is_ne r ≡ true → Compares r (head_of a) (head_of b) → Compares r (code_of a) (code_of b)
heads_differ a b r ne h =
    rw (head_and_rest a, head_and_rest b)
    (stop r (head_of a) (head_of b) (rest_by (elements_of a) (children_of a)) (rest_by (elements_of b) (children_of b)) ne h)

same_head : (a b : Tree) (r : Ordering) → is_ne r ≡ false → Compares r (head_of a) (head_of b) → head_of a ≡ head_of b
same_head a b r ne h = exact_bytes (head_of a) (head_of b) (whole r (head_of a) (head_of b) h ∙ equal_is r ne)

abbrev first_of : List ℕ → ℕ
first_of [] = 0
first_of (x ∷ xs) = x

abbrev last_of : List ℕ → ℕ
last_of (s ∷ p ∷ d ∷ z ∷ n ∷ xs) = n
last_of xs = 0

-- ---- trees of one grammar

form_is : (g : FlatGrammar) (t : Tree) → IsInForm g t → (has_form (is_repetition g (symbol_of t)) (elements_of t) && list_all (λ inner. inner) (map (fold-Tree Bool (form_step g)) (children_of t))) ≡ true
form_is g t h = sym (fold_out-Tree Bool (form_step g) t) ∙ h

both_true : (p q : Bool) → (p && q) ≡ true → (p ≡ true) × (q ≡ true)
both_true true true e = (refl, refl)
both_true true false e = cc
both_true false q e = cc

no_elements : (kind : Bool) (es fs : List Element) → has_form kind es ≡ true → has_form kind fs ≡ true → length es ≡ 0 → length fs ≡ 0
no_elements kind [] [] h k n = refl
no_elements true [] (f ∷ fs) h k n = cc
no_elements false [] (f ∷ fs) h k n = cc
no_elements kind (e ∷ es) fs h k n = let f : ⊥ = omega (arith, n) in elim f [ ]

some_elements : (kind : Bool) (es fs : List Element) → has_form kind es ≡ true → has_form kind fs ≡ true → 0 < length es → 0 < length fs
some_elements kind es (f ∷ fs) h k n = omega arith
some_elements kind [] [] h k n = n
some_elements true (e ∷ es) [] h k n = cc
some_elements false (e ∷ es) [] h k n = cc

child_in : (g : FlatGrammar) (ts : List Tree) (k : ℕ) (c : Tree) → list_all (λ inner. inner) (map (fold-Tree Bool (form_step g)) ts) ≡ true → slice_get ts k ≡ Some c → IsInForm g c
child_in g [] k c h at = let f : ⊥ = omega (arith, slice_get_within [] k c at) in elim f [ ]
child_in g (t ∷ ts) zero c h at =
    let s : Some t ≡ Some c = at in
    let e : t ≡ c = cc in
    subst (λ (x : Tree). IsInForm g x) e (both_true (fold-Tree Bool (form_step g) t) (list_all (λ inner. inner) (map (fold-Tree Bool (form_step g)) ts)) h).0
child_in g (t ∷ ts) (suc k) c h at =
    child_in g ts k c (both_true (fold-Tree Bool (form_step g) t) (list_all (λ inner. inner) (map (fold-Tree Bool (form_step g)) ts)) h).1 at

-- a child of a tree in form is in form
pub child_form : (g : FlatGrammar) (t : Tree) (k : ℕ) (c : Tree) → IsInForm g t → slice_get (children_of t) k ≡ Some c → IsInForm g c
child_form g t k c h at =
    child_in g (children_of t) k c (both_true (has_form (is_repetition g (symbol_of t)) (elements_of t)) (list_all (λ inner. inner) (map (fold-Tree Bool (form_step g)) (children_of t))) (form_is g t h)).1 at

own_form : (g : FlatGrammar) (t : Tree) → IsInForm g t → has_form (is_repetition g (symbol_of t)) (elements_of t) ≡ true
own_form g t h = (both_true (has_form (is_repetition g (symbol_of t)) (elements_of t)) (list_all (λ inner. inner) (map (fold-Tree Bool (form_step g)) (children_of t))) (form_is g t h)).0

-- a child has fewer nodes
fewer_in : (ts : List Tree) (k : ℕ) (c : Tree) → slice_get ts k ≡ Some c → node_count c ≤ sum_of (map node_count ts)
fewer_in [] k c at = let f : ⊥ = omega (arith, slice_get_within [] k c at) in elim f [ ]
fewer_in (t ∷ ts) zero c at =
    let s : Some t ≡ Some c = at in
    let e : t ≡ c = cc in
    subst (λ (x : Tree). node_count x ≤ node_count t + sum_of (map node_count ts)) e (omega arith)
fewer_in (t ∷ ts) (suc k) c at = omega (arith, fewer_in ts k c at)

pub fewer : (t : Tree) (k : ℕ) (c : Tree) → slice_get (children_of t) k ≡ Some c → node_count c < node_count t
fewer t k c at = omega (arith, fewer_in (children_of t) k c at, fold_out-Tree ℕ nodes_step t)

-- ---- two nodes with one head

-- one head, and both in form
pub record AreAlike (a b : Tree) : Type 0 where
  pub none : length (elements_of a) ≡ 0 → length (elements_of b) ≡ 0
  pub some : 0 < length (elements_of a) → 0 < length (elements_of b)
  pub count : count_in_code a ≡ count_in_code b

pub alike : (g : FlatGrammar) (a b : Tree) (r : Ordering) → IsInForm g a → IsInForm g b → is_ne r ≡ false → Compares r (head_of a) (head_of b) → AreAlike a b
alike g a b r ha hb ne h =
    let e : head_of a ≡ head_of b = same_head a b r ne h in
    let s : symbol_of a ≡ symbol_of b = ap first_of e in
    let fa : has_form (is_repetition g (symbol_of b)) (elements_of a) ≡ true = subst (λ (n : ℕ). has_form (is_repetition g n) (elements_of a) ≡ true) s (own_form g a ha) in
    let fb : has_form (is_repetition g (symbol_of b)) (elements_of b) ≡ true = own_form g b hb in
    record {
      none = no_elements (is_repetition g (symbol_of b)) (elements_of a) (elements_of b) fa fb;
      some = some_elements (is_repetition g (symbol_of b)) (elements_of a) (elements_of b) fa fb;
      count = ap last_of e;
    }

count_children : (es : List Element) (ts : List Tree) → length es ≡ 0 → count_by es ts ≡ length ts
count_children [] ts n = refl
count_children (e ∷ es) ts n = let f : ⊥ = omega (arith, n) in elim f [ ]

count_elements : (es : List Element) (ts : List Tree) → 0 < length es → count_by es ts ≡ length es
count_elements [] ts n = let f : ⊥ = omega (arith, n) in elim f [ ]
count_elements (e ∷ es) ts n = refl

pub as_many_children : (a b : Tree) → AreAlike a b → length (elements_of a) ≡ 0 → length (children_of a) ≡ length (children_of b)
as_many_children a b l n =
    sym (count_children (elements_of a) (children_of a) n)
    ∙ l.count
    ∙ count_children (elements_of b) (children_of b) (l.none n)

pub as_many_elements : (a b : Tree) → AreAlike a b → 0 < length (elements_of a) → length (elements_of a) ≡ length (elements_of b)
as_many_elements a b l n =
    sym (count_elements (elements_of a) (children_of a) n)
    ∙ l.count
    ∙ count_elements (elements_of b) (children_of b) (l.some n)

pub by_children : (a b : Tree) (r s : Ordering) → AreAlike a b → is_ne r ≡ false → Compares r (head_of a) (head_of b) → length (elements_of a) ≡ 0 → Compares s (codes_from 0 (length (children_of a)) a) (codes_from 0 (length (children_of a)) b) → Compares s (code_of a) (code_of b)
by_children a b r s l ne h n k =
    let ea : code_of a ≡ head_of a ++ codes_from 0 (length (children_of a)) a = head_and_rest a ∙ ap (λ (x : List ℕ). head_of a ++ x) (rest_of_children (elements_of a) a n) in
    let eb : code_of b ≡ head_of b ++ codes_from 0 (length (children_of a)) b =
    head_and_rest b ∙ ap (λ (x : List ℕ). head_of b ++ x) (rest_of_children (elements_of b) b (l.none n) ∙ ap (λ (m : ℕ). codes_from 0 m b) (sym (as_many_children a b l n))) in
    rw (ea, eb) (go_on r s (head_of a) (head_of b) (codes_from 0 (length (children_of a)) a) (codes_from 0 (length (children_of a)) b) ne h k)

pub by_elements : (a b : Tree) (r s : Ordering) → AreAlike a b → is_ne r ≡ false → Compares r (head_of a) (head_of b) → 0 < length (elements_of a) → Compares s (elements_code a) (elements_code b) → Compares s (code_of a) (code_of b)
by_elements a b r s l ne h n k =
    let ea : code_of a ≡ head_of a ++ elements_code a = head_and_rest a ∙ ap (λ (x : List ℕ). head_of a ++ x) (rest_of_elements (elements_of a) (children_of a) n) in
    let eb : code_of b ≡ head_of b ++ elements_code b = head_and_rest b ∙ ap (λ (x : List ℕ). head_of b ++ x) (rest_of_elements (elements_of b) (children_of b) (l.some n)) in
    rw (ea, eb) (go_on r s (head_of a) (head_of b) (elements_code a) (elements_code b) ne h k)

-- ---- children one after another

pub next_child : (t : Tree) (k n : ℕ) (c : Tree) → slice_get (children_of t) k ≡ Some c → codes_from k (suc n) t ≡ code_of c ++ codes_from (suc k) n t
next_child t k n c at = by (children_of t) k at
  where
    by : (ts : List Tree) (j : ℕ) → slice_get ts j ≡ Some c → concat (map code_of (take (suc n) (drop j ts))) ≡ code_of c ++ concat (map code_of (take n (drop (suc j) ts)))
    by [] j at = let f : ⊥ = omega (arith, slice_get_within [] j c at) in elim f [ ]
    by (u ∷ ts) zero at =
        let s : Some u ≡ Some c = at in
        let e : u ≡ c = cc in
        ap (λ (x : Tree). code_of x ++ concat (map code_of (take n ts))) e
    by (u ∷ ts) (suc j) at = by ts j at

-- ---- elements one after another

abbrev pub elements_from : ℕ → ℕ → Tree → List ℕ
elements_from k from t = element_codes (drop k (elements_of t)) (drop from (map code_of (children_of t)))

pub next_element : (t : Tree) (k from : ℕ) (e : Element) → slice_get (elements_of t) k ≡ Some e → elements_from k from t ≡ (e.alternative ∷ e.children ∷ []) ++ (codes_from from e.children t ++ elements_from (suc k) (from + e.children) t)
next_element t k from e at =
    by (elements_of t) k at
    ∙ ap (λ (x : List ℕ). e.alternative ∷ e.children ∷ (x ++ element_codes (drop (suc k) (elements_of t)) (drop e.children (drop from (map code_of (children_of t)))))) own
    ∙ ap (λ (x : List (List ℕ)). e.alternative ∷ e.children ∷ (codes_from from e.children t ++ element_codes (drop (suc k) (elements_of t)) x)) (drop-drop e.children from (map code_of (children_of t)))
  where
    own : concat (take e.children (drop from (map code_of (children_of t)))) ≡ codes_from from e.children t
    own = ap (λ (x : List (List ℕ)). concat (take e.children x)) (drop-map code_of from (children_of t)) ∙ ap concat (take-map code_of e.children (drop from (children_of t)))

    by : (es : List Element) (j : ℕ) → slice_get es j ≡ Some e → element_codes (drop j es) (drop from (map code_of (children_of t))) ≡ e.alternative ∷ e.children ∷ (concat (take e.children (drop from (map code_of (children_of t)))) ++ element_codes (drop (suc j) es) (drop e.children (drop from (map code_of (children_of t)))))
    by [] j at = let f : ⊥ = omega (arith, slice_get_within [] j e at) in elim f [ ]
    by (d ∷ es) zero at =
        let s : Some d ≡ Some e = at in
        let i : d ≡ e = cc in
        ap (λ (x : Element). element_codes (x ∷ es) (drop from (map code_of (children_of t)))) i
    by (d ∷ es) (suc j) at = by es j at

-- ---- two nodes, child by child

children_ahead : (t : Tree) (k end : ℕ) (c : Tree) → slice_get (children_of t) k ≡ Some c → k < end → codes_from k (end - k) t ≡ code_of c ++ codes_from (k + 1) (end - (k + 1)) t
children_ahead t k end c at below =
    let n : end - k ≡ suc (end - (k + 1)) = omega (arith, below) in
    let j : k + 1 ≡ suc k = omega arith in
    ap (λ (m : ℕ). codes_from k m t) n
    ∙ next_child t k (end - (k + 1)) c at
    ∙ ap (λ (m : ℕ). code_of c ++ codes_from m (end - (k + 1)) t) (sym j)

pub children_step : (a b : Tree) (k end : ℕ) (x y : Tree) (r s : Ordering) → slice_get (children_of a) k ≡ Some x → slice_get (children_of b) k ≡ Some y → k < end → is_ne r ≡ false → Compares r (code_of x) (code_of y) → Compares s (codes_from (k + 1) (end - (k + 1)) a) (codes_from (k + 1) (end - (k + 1)) b) → Compares s (codes_from k (end - k) a) (codes_from k (end - k) b)
children_step a b k end x y r s at_a at_b below ne h later =
    rw (children_ahead a k end x at_a below, children_ahead b k end y at_b below)
    (go_on r s (code_of x) (code_of y) (codes_from (k + 1) (end - (k + 1)) a) (codes_from (k + 1) (end - (k + 1)) b) ne h later)

pub children_stop : (a b : Tree) (k end : ℕ) (x y : Tree) (r : Ordering) → slice_get (children_of a) k ≡ Some x → slice_get (children_of b) k ≡ Some y → k < end → is_ne r ≡ true → Compares r (code_of x) (code_of y) → Compares r (codes_from k (end - k) a) (codes_from k (end - k) b)
children_stop a b k end x y r at_a at_b below ne h =
    rw (children_ahead a k end x at_a below, children_ahead b k end y at_b below)
    (stop r (code_of x) (code_of y) (codes_from (k + 1) (end - (k + 1)) a) (codes_from (k + 1) (end - (k + 1)) b) ne h)

pub children_end : (a b : Tree) (k end : ℕ) → end ≤ k → Compares Equal (codes_from k (end - k) a) (codes_from k (end - k) b)
children_end a b k end past =
    let n : end - k ≡ 0 = omega (arith, past) in
    rw n none

-- ---- two nodes, element by element

-- how the two numbers of two elements compare
abbrev pub element_order : Element → Element → Ordering
element_order e d = ordering_then (nat_cmp e.alternative d.alternative) (nat_cmp e.children d.children)

element_heads : (e d : Element) → Compares (element_order e d) (e.alternative ∷ e.children ∷ []) (d.alternative ∷ d.children ∷ [])
element_heads e d =
    join (nat_cmp e.alternative d.alternative) (nat_cmp e.children d.children) (e.alternative ∷ []) (d.alternative ∷ []) (e.children ∷ []) (d.children ∷ []) (one e.alternative d.alternative) (one e.children d.children)

second_equal : (p q : Ordering) → is_ne (ordering_then p q) ≡ false → q ≡ Equal
second_equal Less q ne = cc
second_equal Equal q ne = equal_is q ne
second_equal Greater q ne = cc

-- elements that do not differ have as many children
pub as_long : (e d : Element) → is_ne (element_order e d) ≡ false → e.children ≡ d.children
as_long e d ne = equal_numbers e.children d.children (second_equal (nat_cmp e.alternative d.alternative) (nat_cmp e.children d.children) ne)

elements_ahead : (t : Tree) (k from : ℕ) (e : Element) → slice_get (elements_of t) k ≡ Some e → elements_from k from t ≡ (e.alternative ∷ e.children ∷ []) ++ (codes_from from e.children t ++ elements_from (k + 1) (from + e.children) t)
elements_ahead t k from e at =
    let j : k + 1 ≡ suc k = omega arith in
    next_element t k from e at
    ∙ ap (λ (m : ℕ). (e.alternative ∷ e.children ∷ []) ++ (codes_from from e.children t ++ elements_from m (from + e.children) t)) (sym j)

pub elements_differ : (a b : Tree) (k from : ℕ) (e d : Element) → slice_get (elements_of a) k ≡ Some e → slice_get (elements_of b) k ≡ Some d → is_ne (element_order e d) ≡ true → Compares (element_order e d) (elements_from k from a) (elements_from k from b)
elements_differ a b k from e d at_a at_b ne =
    rw (elements_ahead a k from e at_a, elements_ahead b k from d at_b)
    (stop (element_order e d) (e.alternative ∷ e.children ∷ []) (d.alternative ∷ d.children ∷ []) (codes_from from e.children a ++ elements_from (k + 1) (from + e.children) a) (codes_from from d.children b ++ elements_from (k + 1) (from + d.children) b) ne (element_heads e d))

elements_follow : (a b : Tree) (k from : ℕ) (e d : Element) (s : Ordering) → slice_get (elements_of a) k ≡ Some e → slice_get (elements_of b) k ≡ Some d → is_ne (element_order e d) ≡ false → Compares s (codes_from from e.children a ++ elements_from (k + 1) (from + e.children) a) (codes_from from e.children b ++ elements_from (k + 1) (from + e.children) b) → Compares s (elements_from k from a) (elements_from k from b)
elements_follow a b k from e d s at_a at_b ne h =
    let l : d.children ≡ e.children = sym (as_long e d ne) in
    let eb : elements_from k from b ≡ (d.alternative ∷ d.children ∷ []) ++ (codes_from from e.children b ++ elements_from (k + 1) (from + e.children) b) =
    elements_ahead b k from d at_b
    ∙ ap (λ (m : ℕ). (d.alternative ∷ d.children ∷ []) ++ (codes_from from m b ++ elements_from (k + 1) (from + m) b)) l in
    rw (elements_ahead a k from e at_a, eb)
    (go_on (element_order e d) s (e.alternative ∷ e.children ∷ []) (d.alternative ∷ d.children ∷ []) (codes_from from e.children a ++ elements_from (k + 1) (from + e.children) a) (codes_from from e.children b ++ elements_from (k + 1) (from + e.children) b) ne (element_heads e d) h)

pub elements_stop : (a b : Tree) (k from : ℕ) (e d : Element) (r : Ordering) → slice_get (elements_of a) k ≡ Some e → slice_get (elements_of b) k ≡ Some d → is_ne (element_order e d) ≡ false → is_ne r ≡ true → Compares r (codes_from from e.children a) (codes_from from e.children b) → Compares r (elements_from k from a) (elements_from k from b)
elements_stop a b k from e d r at_a at_b equal ne h =
    elements_follow a b k from e d r at_a at_b equal (stop r (codes_from from e.children a) (codes_from from e.children b) (elements_from (k + 1) (from + e.children) a) (elements_from (k + 1) (from + e.children) b) ne h)

pub elements_step : (a b : Tree) (k from : ℕ) (e d : Element) (r s : Ordering) → slice_get (elements_of a) k ≡ Some e → slice_get (elements_of b) k ≡ Some d → is_ne (element_order e d) ≡ false → is_ne r ≡ false → Compares r (codes_from from e.children a) (codes_from from e.children b) → Compares s (elements_from (k + 1) (from + e.children) a) (elements_from (k + 1) (from + e.children) b) → Compares s (elements_from k from a) (elements_from k from b)
elements_step a b k from e d r s at_a at_b equal ne h later =
    elements_follow a b k from e d s at_a at_b equal (go_on r s (codes_from from e.children a) (codes_from from e.children b) (elements_from (k + 1) (from + e.children) a) (elements_from (k + 1) (from + e.children) b) ne h later)

pub elements_end : (a b : Tree) (k from : ℕ) → length (elements_of a) ≤ k → length (elements_of b) ≤ k → Compares Equal (elements_from k from a) (elements_from k from b)
elements_end a b k from past_a past_b =
    rw (drop_all k (elements_of a) past_a, drop_all k (elements_of b) past_b) none

-- the children of an element lie among those of its node
pub own_ahead : (es : List Element) (k from n : ℕ) (e : Element) → slice_get es k ≡ Some e → from + children_count (drop k es) ≤ n → from + e.children + children_count (drop (k + 1) es) ≤ n
own_ahead es k from n e at h =
    let c : children_count (drop k es) ≡ e.children + children_count (drop (suc k) es) = by es k at in
    let j : k + 1 ≡ suc k = omega arith in
    rw j (omega (arith, h, c))
  where
    by : (ds : List Element) (i : ℕ) → slice_get ds i ≡ Some e → children_count (drop i ds) ≡ e.children + children_count (drop (suc i) ds)
    by [] i at = let f : ⊥ = omega (arith, slice_get_within [] i e at) in elim f [ ]
    by (d ∷ ds) zero at =
        let s : Some d ≡ Some e = at in
        let x : d ≡ e = cc in
        ap (λ (y : Element). y.children + children_count ds) x
    by (d ∷ ds) (suc i) at = by ds i at

-- ---- the better of two trees

pub at_one_total : (t u : Tree) (r : Ordering) → total_of t ≡ total_of u → Compares r (code_of t) (code_of u) → r ≡ Less ↔ Better t u
at_one_total t u r same h = (to, from)
  where
    w : slice_cmp nat_cmp (code_of t) (code_of u) ≡ r
    w = whole r (code_of t) (code_of u) h

    to : r ≡ Less → Better t u
    to e = inr (same, (before_is (code_of t) (code_of u)).0 (w ∙ e))

    from : Better t u → r ≡ Less
    from (inl less) = grind (arith, less, same)
    from (inr both) = sym w ∙ (before_is (code_of t) (code_of u)).1 both.1
