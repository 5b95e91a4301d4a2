-- The code of a tree in form, whose elements have just their children, is spelled well.
use Rattle.std.proofs.Common.{◌≡◌, ◌∙◌, sym, refl, subst, ℕ, zero, suc, ◌+◌, ◌≤◌, Bool, true, false, true≢false, ◌&&◌, List, [], ◌∷◌, ◌++◌, length, map, take, drop, slice_get, Some, unwrap_or, arith}
use Rattle.std.specs.List.{concat, list_all}
use Rattle.std.proofs.lemmas.List.{length-map}
use Rattle.ts_core.specs.declared.flat.FlatGrammar.{FlatGrammar}
use Rattle.spec_grammar.specs.Symbols.{is_repetition}
use Rattle.spec_trees.specs.declared.tree.Tree.{Tree}
use Rattle.spec_trees.specs.declared.tree.Element.{Element}
use Rattle.spec_trees.specs.declared.tree.Tree.TheFolds.{fold-Tree, fold_out-Tree}
use Rattle.spec_trees.specs.Trees.{symbol_of, production_of, pad_of, size_of, elements_of, children_of}
use Rattle.spec_trees.specs.Inside.{IsNodeIn, itself, inside}
use Rattle.spec_trees.specs.Made.{children_count, AreCounted}
use Rattle.spec_trees.specs.Choice.{code_of, code_step, inner_code, element_codes, has_form, form_step, IsInForm}
use Rattle.spec_runs.proofs.BareLemmas.{Each, over_tree}
use Rattle.spec_packing.proofs.CodeLemmas.{Words, nothing, a_node, an_element, words_counted, words_append, one_code}
use Rattle.spec_graph.specs.Grounded.{Spells, nothing_more, a_tree, one_part}

-- ---- codes

abbrev EachWord : FlatGrammar → List (List ℕ) → Type 0
EachWord g [] = Unit {0}
EachWord g (c ∷ cs) = Words g false 1 c × EachWord g cs

codes_words : (g : FlatGrammar) (cs : List (List ℕ)) → EachWord g cs → Words g false (length cs) (concat cs)
codes_words g [] a = nothing false
codes_words g (c ∷ cs) a =
    words_counted g false (1 + length cs) (length (c ∷ cs)) (c ++ concat cs) (omega arith)
    (words_append g false 1 (length cs) c (concat cs) a.0 (codes_words g cs a.1))

each_take : (g : FlatGrammar) (n : ℕ) (cs : List (List ℕ)) → EachWord g cs → EachWord g (take n cs)
each_take g zero cs a = tt
each_take g (suc n) [] a = tt
each_take g (suc n) (c ∷ cs) a = (a.0, each_take g n cs a.1)

each_drop : (g : FlatGrammar) (n : ℕ) (cs : List (List ℕ)) → EachWord g cs → EachWord g (drop n cs)
each_drop g zero cs a = a
each_drop g (suc n) [] a = tt
each_drop g (suc n) (c ∷ cs) a = each_drop g n cs a.1

taken : (n : ℕ) (cs : List (List ℕ)) → n ≤ length cs → length (take n cs) ≡ n
taken zero cs h = refl
taken (suc n) [] h = absurd (omega (arith, h))
taken (suc n) (c ∷ cs) h = let e = taken n cs (omega (arith, h)) in omega (arith, e)

left : (n m : ℕ) (cs : List (List ℕ)) → n + m ≡ length cs → m ≡ length (drop n cs)
left zero m cs h = omega (arith, h)
left (suc n) m [] h = absurd (omega (arith, h))
left (suc n) m (c ∷ cs) h = left n m cs (omega (arith, h))

elements_words : (g : FlatGrammar) (es : List Element) (cs : List (List ℕ)) → children_count es ≡ length cs → EachWord g cs → Words g true (length es) (element_codes es cs)
elements_words g [] cs h a = nothing true
elements_words g (e ∷ es) cs h a =
    an_element (length es) e.alternative e.children (concat (take e.children cs)) (element_codes es (drop e.children cs))
    (words_counted g false (length (take e.children cs)) e.children (concat (take e.children cs)) (taken e.children cs (omega (arith, h)))
    (codes_words g (take e.children cs) (each_take g e.children cs a)))
    (elements_words g es (drop e.children cs) (left e.children (children_count es) cs (omega (arith, h))) (each_drop g e.children cs a))

-- ---- a node

code_is : (t : Tree) → code_of t ≡ symbol_of t ∷ unwrap_or (production_of t) 0 ∷ pad_of t ∷ size_of t ∷ inner_code (elements_of t) (map code_of (children_of t))
code_is t = fold_out-Tree (List ℕ) code_step t

node_words : (g : FlatGrammar) (s p d z : ℕ) (es : List Element) (ks : List Tree) → has_form (is_repetition g s) es ≡ true → AreCounted es ks → EachWord g (map code_of ks)
    → Words g false 1 (s ∷ p ∷ d ∷ z ∷ inner_code es (map code_of ks))
node_words g s p d z [] ks form counted a =
    one_code g s p d z (length (map code_of ks)) (concat (map code_of ks)) (by (is_repetition g s) form)
  where
    by : (b : Bool) → has_form b [] ≡ true → Words g b (length (map code_of ks)) (concat (map code_of ks))
    by true e = absurd (true≢false (sym e))
    by false e = codes_words g (map code_of ks) a
node_words g s p d z (e ∷ es) ks form counted a =
    one_code g s p d z (length (e ∷ es)) (element_codes (e ∷ es) (map code_of ks)) (by (is_repetition g s) form)
  where
    by : (b : Bool) → has_form b (e ∷ es) ≡ true → Words g b (length (e ∷ es)) (element_codes (e ∷ es) (map code_of ks))
    by true f = elements_words g (e ∷ es) (map code_of ks) (counted ∙ sym (length-map ks code_of)) a
    by false f = absurd (true≢false (sym f))

-- ---- a tree

-- all elements in a tree have just their children
abbrev CountedIn : Tree → Type 0
CountedIn t = (u : Tree) → IsNodeIn t u → AreCounted (elements_of u) (children_of u)

in_in : (t u v : Tree) → IsNodeIn t u → IsNodeIn u v → IsNodeIn t v
in_in t u _ outer itself = outer
in_in t u _ outer (inside w v k deep at) = inside w v k (in_in t u w outer deep) at

counted_child : (t v : Tree) (k : ℕ) → CountedIn t → slice_get (children_of t) k ≡ Some v → CountedIn v
counted_child t v k counted at u deep = counted u (in_in t v u (inside t v k itself at) deep)

abbrev all_forms : FlatGrammar → List Tree → Bool
all_forms g ts = list_all (λ (inner : Bool). inner) (map (fold-Tree Bool (form_step g)) ts)

both_true : (p q : Bool) → (p && q) ≡ true → (p ≡ true) × (q ≡ true)
both_true true true e = (refl, refl)
both_true true false e = cc
both_true false q e = cc

abbrev IsSpelled : FlatGrammar → Tree → Type 0
IsSpelled g t = IsInForm g t → CountedIn t → Words g false 1 (code_of t)

each_spelled : (g : FlatGrammar) (ts : List Tree) → Each (IsSpelled g) ts → all_forms g ts ≡ true → ((k : ℕ) (v : Tree) → slice_get ts k ≡ Some v → CountedIn v) → EachWord g (map code_of ts)
each_spelled g [] a forms counted = tt
each_spelled g (t ∷ ts) a forms counted =
    let h = both_true (fold-Tree Bool (form_step g) t) (all_forms g ts) forms in
    (a.0 h.0 (counted 0 t refl), each_spelled g ts a.1 h.1 (λ k v at. counted (suc k) v at))

tree_words : (g : FlatGrammar) (t : Tree) → IsSpelled g t
tree_words g = over_tree (IsSpelled g) (λ t each form counted.
    let h = both_true (has_form (is_repetition g (symbol_of t)) (elements_of t)) (all_forms g (children_of t)) (sym (fold_out-Tree Bool (form_step g) t) ∙ form) in
    subst (λ (l : List ℕ). Words g false 1 l) (sym (code_is t))
    (node_words g (symbol_of t) (unwrap_or (production_of t) 0) (pad_of t) (size_of t) (elements_of t) (children_of t) h.0 (counted t itself)
    (each_spelled g (children_of t) each h.1 (λ k v at. counted_child t v k counted at))))

pub words_spelled : (g : FlatGrammar) (b : Bool) (n : ℕ) (xs : List ℕ) → Words g b n xs → Spells g b n xs
words_spelled g _ _ _ (nothing b) = nothing_more b
words_spelled g _ _ _ (a_node n s p d z k xs ys w v) = a_tree n s p d z k xs ys (words_spelled g (is_repetition g s) k xs w) (words_spelled g false n ys v)
words_spelled g _ _ _ (an_element n a k xs ys w v) = one_part n a k xs ys (words_spelled g false k xs w) (words_spelled g true n ys v)

pub tree_spelled : (g : FlatGrammar) (t : Tree) → IsInForm g t → ((u : Tree) → IsNodeIn t u → AreCounted (elements_of u) (children_of u)) → Spells g false 1 (code_of t)
tree_spelled g t form counted = words_spelled g false 1 (code_of t) (tree_words g t form counted)
