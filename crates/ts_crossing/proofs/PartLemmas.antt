-- Lists of trees on stacks, and what they take of a text.
use Rattle.std.proofs.Common.{◌≡◌, ◌∙◌, sym, ap, refl, subst, ℕ, zero, suc, ◌+◌, ◌≤◌, true, true≢false, List, [], ◌∷◌, ◌++◌, append_assoc, length, length-append, drop, reverse, Option, Some, unwrap_or, arith}
use Rattle.std.proofs.lemmas.List.{reverse-append}
use Rattle.ts_base.proofs.PlaceLemmas.{at_end}
use Rattle.spec_trees.specs.declared.tree.Tree.{Tree}
use Rattle.spec_trees.specs.Trees.{is_extra_node, span_of, all_spans}
use Rattle.spec_trees.specs.Made.{EndBy}
use Rattle.spec_runs.specs.Configurations.{AreExtras}
use Rattle.ts_gss.specs.declared.layer.Layer.{Layer}
use Rattle.ts_gss.specs.Stacks.{stack_at, trees_on, tree_on, under_top, begins_with_extra}
use Rattle.ts_gss.specs.Paths.{Lifting}
use Rattle.ts_crossing.proofs.BareLemmas.{spans_append}

pub stack_new : (ss : List (List Layer)) (x : List Layer) → stack_at (ss ++ x ∷ []) (length ss) ≡ x
stack_new ss x = ap (λ (o : Option (List Layer)). unwrap_or o []) (at_end ss x)

-- ---- where what was examined ends

pub end_by_wider : (end end' place place' : ℕ) (ks : List Tree) → end ≤ end' → place' ≤ place → EndBy end place ks → EndBy end' place' ks
end_by_wider end end' place place' [] h i e = tt
end_by_wider end end' place place' (k ∷ ks) h i e =
    (omega (arith, e.0, h, i), end_by_wider end end' (place + span_of k) (place' + span_of k) ks h (omega (arith, i)) e.1)

pub end_by_both : (end place : ℕ) (ks more : List Tree) → EndBy end place ks → EndBy end (place + all_spans ks) more → EndBy end place (ks ++ more)
end_by_both end place [] more a b = end_by_wider end end (place + 0) place more (omega arith) (omega arith) b
end_by_both end place (k ∷ ks) more a b =
    (a.0, end_by_both end (place + span_of k) ks more a.1 (end_by_wider end end (place + (span_of k + all_spans ks)) (place + span_of k + all_spans ks) more (omega arith) (omega arith) b))

pub end_by_split : (end place : ℕ) (xs ys : List Tree) → EndBy end place (xs ++ ys) → EndBy end place xs × EndBy end (place + all_spans xs) ys
end_by_split end place [] ys e = (tt, end_by_wider end end place (place + 0) ys (omega arith) (omega arith) e)
end_by_split end place (x ∷ xs) ys e =
    let r = end_by_split end (place + span_of x) xs ys e.1 in
    ((e.0, r.0), end_by_wider end end (place + span_of x + all_spans xs) (place + (span_of x + all_spans xs)) ys (omega arith) (omega arith) r.1)

pub spans_turned : (xs : List Tree) → all_spans (reverse xs) ≡ all_spans xs
spans_turned [] = refl
spans_turned (x ∷ xs) = omega (arith, ap all_spans (reverse-append (x ∷ []) xs), spans_append (reverse xs) (x ∷ []), spans_turned xs)

-- ---- one more extra

extras_more : (es : List Tree) (t : Tree) → AreExtras es → is_extra_node t ≡ true → AreExtras (es ++ t ∷ [])
extras_more [] t all h = (h, tt)
extras_more (e ∷ es) t all h = (all.0, extras_more es t all.1 h)

drop_one : (n : ℕ) (stack rest : List Layer) (l : Layer) → l ∷ rest ≡ drop n stack → rest ≡ drop (suc n) stack
drop_one zero [] rest l e = absurd (let h : l ∷ rest ≡ [] = e in cc)
drop_one zero (x ∷ stack) rest l e = let h : l ∷ rest ≡ x ∷ stack = e in cc
drop_one (suc n) [] rest l e = absurd (let h : l ∷ rest ≡ [] = e in cc)
drop_one (suc n) (x ∷ stack) rest l e = drop_one n stack rest l e

drop_next : (ts : List Tree) (t : Tree) (stack rest : List Layer) (l : Layer) → l ∷ rest ≡ drop (length ts) stack → rest ≡ drop (length (ts ++ t ∷ [])) stack
drop_next ts t stack rest l e =
    let n : length (ts ++ t ∷ []) ≡ suc (length ts) = omega (arith, length-append ts (t ∷ [])) in
    drop_one (length ts) stack rest l e ∙ ap (λ (k : ℕ). drop k stack) (sym n)

pub lift_more : (stack under rest : List Layer) (extras more : List Tree) (t : Tree) → Lifting stack extras under → true ≡ begins_with_extra under → Some t ≡ tree_on under → rest ≡ under_top under → more ≡ extras ++ t ∷ [] → Lifting stack more rest
lift_more stack [] rest extras more t b extra top rest_is more_is = absurd (true≢false extra)
lift_more stack (l ∷ under) rest extras more t b extra top rest_is more_is =
    let t_is : t ≡ l.tree = let h : Some t ≡ Some l.tree = top in cc in
    let fills : is_extra_node t ≡ true = ap is_extra_node t_is ∙ sym extra in
    let r : rest ≡ under = rest_is in
    record {
      trees = b.trees ∙ ap (λ (x : Tree). extras ++ x ∷ trees_on under) (sym t_is) ∙ sym (append_assoc extras (t ∷ []) (trees_on under)) ∙ ap (λ (es : List Tree). es ++ trees_on under) (sym more_is) ∙ ap (λ (ls : List Layer). more ++ trees_on ls) (sym r);
      all_extras = subst AreExtras (sym more_is) (extras_more extras t b.all_extras fills);
      rest = r ∙ drop_next extras t stack under l b.rest ∙ ap (λ (es : List Tree). drop (length es) stack) (sym more_is);
    }
