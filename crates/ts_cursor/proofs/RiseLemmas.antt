-- The starts of visible nodes rise, where each node of the tree stands over its children.
use Rattle.std.proofs.Common.{◌≡◌, ℕ, zero, suc, ◌+◌, ◌≤◌, sym, ap, refl, subst, arith, Bool, true, false, List, [], ◌∷◌, ◌++◌, drop, slice_get, Some}
use Rattle.std.proofs.lemmas.Option.{slice_get_within}
use Rattle.ts_core.specs.declared.flat.FlatGrammar.{FlatGrammar}
use Rattle.spec_trees.specs.declared.tree.Tree.{Tree}
use Rattle.spec_trees.specs.declared.visible.VisibleNode.{VisibleNode}
use Rattle.spec_trees.specs.Trees.{symbol_of, production_of, elements_of, children_of, pad_of, span_of, all_spans, first_pad, tree_depth, greatest_depth}
use Rattle.spec_trees.specs.Inside.{itself, SpansOver, StandsOver, StandOver}
use Rattle.spec_trees.specs.VisibleNodes.{Marks, children_marks, first_marks, is_shown, with_field, showing, visible_nodes, root_marks}
use Rattle.ts_cursor.specs.Marked.{among, inner_nodes}
use Rattle.ts_cursor.specs.Preorder.{StartsRise}
use Rattle.ts_cursor.proofs.WalkLemmas.{depth_is, showing_shown, showing_hidden}
use Rattle.ts_cursor.proofs.NestLemmas.{Between, within_child, showing_nests}

-- each node starts at this place or later, and no node before an earlier one
abbrev pub RisesFrom : ℕ → List VisibleNode → Type 0
RisesFrom low [] = Unit {0}
RisesFrom low (x ∷ xs) = (low ≤ x.start) × RisesFrom x.start xs

rises_lower : (low less : ℕ) (xs : List VisibleNode) → less ≤ low → RisesFrom low xs → RisesFrom less xs
rises_lower low less [] l r = tt
rises_lower low less (x ∷ xs) l r = (omega (arith, l, r.0), r.1)

-- nodes that lie before a place, and then nodes behind it
rises_append : (depth low other middle : ℕ) (xs ys : List VisibleNode) → low ≤ middle → RisesFrom low xs → Between depth other middle xs → RisesFrom middle ys → RisesFrom low (xs ++ ys)
rises_append depth low other middle [] ys l r b s = rises_lower middle low ys l s
rises_append depth low other middle (x ∷ xs) ys l r b s =
    (r.0, rises_append depth x.start other middle xs ys (omega (arith, b.1.1.0, b.1.1.1.0)) r.1 b.1.1.1.1 s)

among_rises : (g : FlatGrammar) (n : ℕ) → ((t : Tree) (depth place : ℕ) (fields : List ℕ) (m : Marks) → tree_depth t ≤ n → StandOver t → RisesFrom (place + pad_of t) (showing g t depth place fields m))
    → (ts : List Tree) (ms : List Marks) (depth place : ℕ) (fields : List ℕ) → greatest_depth ts ≤ n → ((k : ℕ) (c : Tree) → slice_get ts k ≡ Some c → StandOver c) → RisesFrom (place + first_pad ts) (among g ts ms depth place fields)
among_rises g n f [] ms depth place fields h over = tt
among_rises g n f (t ∷ ts) ms depth place fields h over =
    rises_append depth (place + pad_of t) (place + pad_of t) (place + span_of t) (showing g t depth place fields (first_marks ms)) (among g ts (drop 1 ms) depth (place + span_of t) fields)
    (omega arith)
    (f t depth place fields (first_marks ms) (omega (arith, h)) (over 0 t refl))
    (showing_nests n g t depth place fields (first_marks ms) (omega (arith, h)) (over 0 t refl)).between
    (rises_lower (place + span_of t + first_pad ts) (place + span_of t) _ (omega arith) (among_rises g n f ts (drop 1 ms) depth (place + span_of t) fields (omega (arith, h)) (λ k c e. over (suc k) c e)))

-- the children of a node start no earlier than it does
children_rise : (t : Tree) (place : ℕ) (xs : List VisibleNode) → StandsOver t → (children_of t ≡ [] → xs ≡ []) → RisesFrom (place + first_pad (children_of t)) xs → RisesFrom (place + pad_of t) xs
children_rise t place xs over none r = by (children_of t) refl
  where
    by : (ts : List Tree) → children_of t ≡ ts → RisesFrom (place + pad_of t) xs
    by [] e = subst (λ (vs : List VisibleNode). RisesFrom (place + pad_of t) vs) (sym (none e)) tt
    by (c ∷ cs) e =
        let o : (pad_of t ≡ pad_of c) × (all_spans (c ∷ cs) ≤ span_of t) = subst (λ (ts : List Tree). SpansOver (pad_of t) (span_of t) ts) e over in
        let m : RisesFrom (place + pad_of c) xs = subst (λ (ts : List Tree). RisesFrom (place + first_pad ts) xs) e r in
        rises_lower (place + pad_of c) (place + pad_of t) xs (omega (arith, o.0)) m

showing_rises : (n : ℕ) (g : FlatGrammar) (t : Tree) (depth place : ℕ) (fields : List ℕ) (m : Marks) → tree_depth t ≤ n → StandOver t → RisesFrom (place + pad_of t) (showing g t depth place fields m)
showing_rises zero g t depth place fields m h over = absurd (omega (arith, h, depth_is t))
showing_rises (suc n) g t depth place fields m h over = by (is_shown g (symbol_of t) m.alias) refl
    (λ d fs. children_rise t place (inner_nodes g t d place fs) (over t itself)
    (λ e. ap (λ (ts : List Tree). among g ts (children_marks g (symbol_of t) (production_of t) (elements_of t) (children_of t)) d place fs) e)
    (among_rises g n (showing_rises n g) (children_of t) (children_marks g (symbol_of t) (production_of t) (elements_of t) (children_of t)) d place fs (omega (arith, h, depth_is t)) (λ k c e u i. over u (within_child t c k e u i))))
  where
    by : (b : Bool) → is_shown g (symbol_of t) m.alias ≡ b → ((d : ℕ) (fs : List ℕ) → RisesFrom (place + pad_of t) (inner_nodes g t d place fs)) → RisesFrom (place + pad_of t) (showing g t depth place fields m)
    by true e inner =
        subst (λ (vs : List VisibleNode). RisesFrom (place + pad_of t) vs) (sym (showing_shown g t depth place fields m e))
        (omega arith, inner (suc depth) [])
    by false e inner = subst (λ (vs : List VisibleNode). RisesFrom (place + pad_of t) vs) (sym (showing_hidden g t depth place fields m e)) (inner depth (with_field fields m.field))

-- ---- by numbers

from_at : (low : ℕ) (xs : List VisibleNode) (k : ℕ) (a : VisibleNode) → RisesFrom low xs → slice_get xs k ≡ Some a → low ≤ a.start
from_at low [] k a r e = absurd (omega (arith, slice_get_within {A = VisibleNode} [] k a e))
from_at low (x ∷ xs) zero a r e =
    let s : Some x ≡ Some a = e in
    let x_is : x ≡ a = cc in
    subst (λ (v : VisibleNode). low ≤ v.start) x_is r.0
from_at low (x ∷ xs) (suc k) a r e = omega (arith, r.0, from_at x.start xs k a r.1 e)

rise_at : (low : ℕ) (xs : List VisibleNode) → RisesFrom low xs → StartsRise xs
rise_at low [] r j k a b h at_j at_k = absurd (omega (arith, slice_get_within {A = VisibleNode} [] j a at_j))
rise_at low (x ∷ xs) r j zero a b h at_j at_k = absurd (omega (arith, h))
rise_at low (x ∷ xs) r zero (suc k) a b h at_j at_k =
    let s : Some x ≡ Some a = at_j in
    let x_is : x ≡ a = cc in
    subst (λ (v : VisibleNode). v.start ≤ b.start) x_is (from_at x.start xs k b r.1 at_k)
rise_at low (x ∷ xs) r (suc j) (suc k) a b h at_j at_k = rise_at x.start xs r.1 j k a b (omega (arith, h)) at_j at_k

pub starts_rise : (g : FlatGrammar) (t : Tree) → StandOver t → StartsRise (visible_nodes g t)
starts_rise g t over = rise_at (0 + pad_of t) _ (showing_rises (tree_depth t) g t 0 0 [] (root_marks g (symbol_of t)) (omega arith) over)
