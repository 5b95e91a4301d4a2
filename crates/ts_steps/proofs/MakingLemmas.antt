-- Sums over the nodes of a reduction.
use Rattle.std.proofs.Common.{◌≡◌, ◌∙◌, sym, ap, refl, subst, ℕ, suc, ◌+◌, ◌-◌, ◌<◌, ◌≤◌, max, Bool, true, true≢false, List, [], ◌∷◌, ◌++◌, ◌&&◌, false, length, take, drop, drop-cons, get_or, is_some, Some, None, arith, Option}
use Rattle.std.proofs.lemmas.List.{take-append-drop}
use Rattle.ts_core.specs.declared.flat.FlatGrammar.{FlatGrammar}
use Rattle.ts_core.specs.declared.flat.Production.{Production}
use Rattle.spec_trees.specs.declared.tree.Tree.{Tree}
use Rattle.spec_trees.specs.declared.tree.Tree.TheFolds.{fold-roll-Tree, fold_out-Tree}
use Rattle.spec_trees.specs.Trees.{span_of, node_extent, state_of, all_spans, tree_depth, greatest_depth, depth_step, children_of, elements_of, total_of, all_totals}
use Rattle.spec_trees.specs.Made.{EndBy, Form, of_rule, of_first, of_next, form_of, reduced, made_by, value_of, node_over, element}
use lib.IntN.{◌+ℤ◌}
use Rattle.ts_steps.specs.MoveLaws.{Laws}
use Rattle.ts_steps.specs.Lines.{lengthens_by}
use Rattle.ts_steps.specs.Good.{CanReduce}
use Rattle.ts_steps.specs.declared.making.Seen.{Seen}
use Rattle.ts_steps.specs.Making.{depth_when, IsSeenOf}
use Rattle.ts_steps.proofs.NodeLemmas.{greatest_depth-append, all_spans-append, reduced_is, over_layer, end_by_wider}
use Rattle.ts_steps.proofs.StackLemmas.{end_by_split}

-- what is left of a list begins with the tree at hand
pub dropped : (ts : List Tree) (i : ℕ) (t : Tree) → i < length ts → t ≡ get_or ts i t → drop i ts ≡ t ∷ drop (i + 1) ts
dropped ts i t low is =
    let n : suc i ≡ i + 1 = omega arith in
    drop-cons ts i t low ∙ ap (λ (x : Tree). x ∷ drop (suc i) ts) (sym is) ∙ ap (λ (k : ℕ). t ∷ drop k ts) n

pub spans_dropped : (ts : List Tree) (i : ℕ) (t : Tree) → i < length ts → t ≡ get_or ts i t → all_spans (drop i ts) ≡ span_of t + all_spans (drop (i + 1) ts)
spans_dropped ts i t low is = ap all_spans (dropped ts i t low is)

-- ---- what is known of trees and of those behind them

end_by_later : (more end place : ℕ) (ts : List Tree) → EndBy end place ts → EndBy (more + end) (more + place) ts
end_by_later more end place [] e = tt
end_by_later more end place (t ∷ ts) e =
    (omega (arith, e.0), end_by_wider (more + end) (more + end) (more + (place + span_of t)) (more + place + span_of t) ts (omega arith) (omega arith) (end_by_later more end (place + span_of t) ts e.1))

-- extras were examined as far from where their node begins
pub end_by_behind : (own end all : ℕ) (ts : List Tree) → EndBy end 0 ts → own + end ≤ all → EndBy all own ts
end_by_behind own end all ts e less = end_by_wider (own + end) all (own + 0) own ts less (omega arith) (end_by_later own end 0 ts e)

pub seen_none : (behind : ℕ) → IsSeenOf [] behind (record { extent = behind; stated = true })
seen_none behind = record { covers = tt; past = omega arith; most = λ start limit sum all. omega (arith, sum); stated = ((λ h. tt), (λ all. refl)) }

pub seen_before : (t : Tree) (ts : List Tree) (behind : ℕ) (old new : Seen) → new.extent ≡ max (span_of t + old.extent) (node_extent t) → new.stated ≡ (old.stated && is_some (state_of t))
    → IsSeenOf ts behind old → IsSeenOf (t ∷ ts) behind new
seen_before t ts behind old new extent stated k = record {
  covers = (omega (arith, extent), end_by_wider new.extent new.extent (span_of t) (0 + span_of t) ts (omega arith) (omega arith) (end_by_behind (span_of t) old.extent new.extent ts k.covers (omega (arith, extent))));
  past = omega (arith, extent, k.past);
  most = λ start limit sum all. let m = k.most (start + span_of t) limit (omega (arith, sum)) all.1 in let own = all.0 in omega (arith, extent, m, own);
  stated = (
    (λ h. let both = both_true old.stated (is_some (state_of t)) (sym stated ∙ h) in (has_one (state_of t) both.1, k.stated.0 both.0)),
    (λ all. stated ∙ and_true old.stated (is_some (state_of t)) (k.stated.1 all.1) (some_of (state_of t) all.0)),
  );
}
  where
    both_true : (p q : Bool) → (p && q) ≡ true → (p ≡ true) × (q ≡ true)
    both_true true true e = (refl, refl)
    both_true true false e = cc
    both_true false q e = cc

    and_true : (p q : Bool) → p ≡ true → q ≡ true → (p && q) ≡ true
    and_true p q a b = rw (a, b) refl

    has_one : (o : Option ℕ) → is_some o ≡ true → (n : ℕ) × (o ≡ Some n)
    has_one None e = let k : false ≡ true = e in cc
    has_one (Some n) e = (n, refl)

    some_of : (o : Option ℕ) → (n : ℕ) × (o ≡ Some n) → is_some o ≡ true
    some_of o w = ap is_some w.1

pub seen_more : (ts : List Tree) (left i behind : ℕ) (t : Tree) (old new : Seen) → left ≡ i + 1 → i < length ts → t ≡ get_or ts i t → new.extent ≡ max (span_of t + old.extent) (node_extent t) → new.stated ≡ (old.stated && is_some (state_of t))
    → IsSeenOf (drop left ts) behind old → IsSeenOf (drop i ts) behind new
seen_more ts left i behind t old new left_is low is extent stated k =
    subst (λ (l : List Tree). IsSeenOf l behind new) (sym (dropped ts i t low is))
    (seen_before t (drop (i + 1) ts) behind old new extent stated (subst (λ (n : ℕ). IsSeenOf (drop n ts) behind old) left_is k))

-- there is room for what was examined for a tree and behind it
pub seen_fits : (ts : List Tree) (left i behind start limit : ℕ) (t : Tree) (s : Seen) → left ≡ i + 1 → i < length ts → t ≡ get_or ts i t → EndBy limit start ts → start + (all_spans ts + behind) ≤ limit → IsSeenOf (drop left ts) behind s → span_of t + s.extent ≤ limit
seen_fits ts left i behind start limit t s left_is low is all sum k =
    let rest : List Tree = drop (i + 1) ts in
    let parts : take i ts ++ t ∷ rest ≡ ts = ap (λ (l : List Tree). take i ts ++ l) (sym (dropped ts i t low is)) ∙ take-append-drop i ts in
    let from : EndBy limit start (take i ts ++ t ∷ rest) = subst (λ (l : List Tree). EndBy limit start l) (sym parts) all in
    let behind_it = (end_by_split limit start (take i ts) (t ∷ rest) from).1.1 in
    let spans : all_spans (take i ts ++ t ∷ rest) ≡ all_spans ts = ap all_spans parts in
    let both = all_spans-append (take i ts) (t ∷ rest) in
    let m = (subst (λ (n : ℕ). IsSeenOf (drop n ts) behind s) left_is k).most (start + all_spans (take i ts) + span_of t) limit (omega (arith, sum, spans, both)) behind_it in
    omega (arith, m)

-- ---- how deep the node is

over_depth : (symbol : ℕ) (production : _) (dynamic : _) (extent : ℕ) (state : _) (es : _) (ks : List Tree) → tree_depth (node_over symbol production dynamic extent state es ks) ≡ 1 + greatest_depth ks
over_depth symbol production dynamic extent state es ks = fold-roll-Tree ℕ depth_step (over_layer symbol production dynamic extent state es ks)

made_depth : (f : Form) (left number : ℕ) (value : _) (extent : ℕ) (state : _) (ks : List Tree) → (lengthens_by f ≡ true → 0 < length ks) → tree_depth (made_by f left number value extent state ks) ≡ depth_when (lengthens_by f) ks
made_depth of_rule left number value extent state ks some = over_depth left (Some number) (value +ℤ all_totals ks) extent state [] ks
made_depth (of_first a) left number value extent state ks some = over_depth left None (value +ℤ all_totals ks) extent state (element a (length ks) value extent ∷ []) ks
made_depth (of_next a) left number value extent state [] some = absurd (let h = some refl in omega arith)
made_depth (of_next a) left number value extent state (k ∷ ks) some =
    let d : tree_depth k ≡ 1 + greatest_depth (children_of k) = fold_out-Tree ℕ depth_step k in
    omega (arith, over_depth left None (value +ℤ (total_of k +ℤ all_totals ks)) extent state (elements_of k ++ element a (length ks) value (extent - span_of k) ∷ []) (children_of k ++ ks), greatest_depth-append (children_of k) ks, d)

some_child : (laws : Laws) (g : FlatGrammar) (number left : ℕ) (p : Production) (extent : ℕ) (f : Form) (ks : List Tree) → form_of g left number ≡ f → CanReduce g number left p extent ks → lengthens_by f ≡ true → 0 < length ks
some_child laws g number left p extent of_rule ks e c h = absurd (true≢false (sym h))
some_child laws g number left p extent (of_first a) ks e c h = absurd (true≢false (sym h))
some_child laws g number left p extent (of_next a) [] e c h = absurd (let r = laws.repeats g c.fit number left a p c.at e in let k : [] ≡ left ∷ r.next ∷ r.others = c.filled ∙ r.steps_are in cc)
some_child laws g number left p extent (of_next a) (k ∷ ks) e c h = omega arith

pub some_lengthened : (laws : Laws) (g : FlatGrammar) (number left : ℕ) (p : Production) (extent : ℕ) (lengthens : Bool) (ks : List Tree) → CanReduce g number left p extent ks → lengthens_by (form_of g left number) ≡ lengthens → lengthens ≡ true → 0 < length ks
some_lengthened laws g number left p extent lengthens ks c is yes' = some_child laws g number left p extent (form_of g left number) ks refl c (is ∙ yes')

pub reduced_depth : (laws : Laws) (g : FlatGrammar) (number left : ℕ) (p : Production) (extent : ℕ) (state : Option ℕ) (lengthens : Bool) (ks : List Tree) → CanReduce g number left p extent ks → lengthens_by (form_of g left number) ≡ lengthens
    → tree_depth (reduced g number extent state ks) ≡ depth_when lengthens ks
reduced_depth laws g number left p extent state lengthens ks c is =
    ap tree_depth (reduced_is laws g number left p extent state ks c.at)
    ∙ made_depth (form_of g left number) left number (value_of g number) extent state ks (some_child laws g number left p extent (form_of g left number) ks refl c)
    ∙ ap (λ (b : Bool). depth_when b ks) is
