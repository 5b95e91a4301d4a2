-- The leaves of a tree without gaps spell the text, and the nodes that a parser makes have no gaps.
use Rattle.std.proofs.Common.{◌≡◌, ℕ, zero, suc, ◌+◌, ◌-◌, ◌≤◌, sym, ap, ◌∙◌, refl, arith, Bool, true, ◌&&◌, List, [], ◌∷◌, ◌++◌, map, take, drop, Option}
use Rattle.std.specs.Prelude.{All}
use Rattle.std.specs.List.{list_all}
use Rattle.std.proofs.Math.Seq.{take-add}
use Rattle.std.proofs.lemmas.Bool.{eqb-true, eq-eqb}
use Rattle.std.proofs.lemmas.List.{drop-drop, append-nil}
use Rattle.std.proofs.lemmas.Grind.{flat_map-append}
use Rattle.std.proofs.lemmas.List.Elements.{All-nil, All-cons, All-head, All-tail, All-append}
use lib.IntN.{ℤ}
use Rattle.ts_base.specs.Bytes.{Bytes}
use Rattle.ts_core.specs.declared.flat.FlatGrammar.{FlatGrammar}
use Rattle.spec_trees.specs.declared.tree.Tree.{Tree}
use Rattle.spec_trees.specs.declared.tree.Element.{Element}
use Rattle.spec_trees.specs.declared.tree.Tree.TheViews.{out-Tree, roll-out-Tree}
use Rattle.spec_trees.specs.declared.tree.Tree.TheFolds.{para-Tree, para-roll-Tree, fold_out-Tree}
use Rattle.spec_trees.specs.Trees.{pad_of, size_of, span_of, all_spans, first_pad, children_of, tree_depth, depth_step, greatest_depth}
use Rattle.spec_trees.specs.Made.{leaf_of, as_extra, node_over, Form, of_rule, of_first, of_next, form_of, left_of, value_of, made_by, reduced, accepted}
use Rattle.ts_node.specs.Leaves.{LeafAt, leaves_among, leaves_by, leaves_step, leaves_from, leaf_bytes, leaves_bytes, is_filled_by, gapless_step, IsGapless}
use Rattle.ts_node.proofs.ReducedLemmas.{over_layer, first_pad_within}
use Rattle.ts_node.proofs.FormLemmas.{both, both_true, token_layer}

-- ---- trees without gaps

-- whether all of some trees have none
abbrev all_gapless : List Tree → Bool
all_gapless ts = list_all (λ (c : Tree × Bool). c.1) (map (λ (t : Tree). (t, para-Tree Bool gapless_step t)) ts)

same_trees : (ts : List Tree) → map (λ (c : Tree × Bool). c.0) (map (λ (t : Tree). (t, para-Tree Bool gapless_step t)) ts) ≡ ts
same_trees [] = refl
same_trees (t ∷ ts) = ap (λ (us : List Tree). t ∷ us) (same_trees ts)

all_in : (ts : List Tree) → All IsGapless ts → all_gapless ts ≡ true
all_in [] h = refl
all_in (t ∷ ts) h = both (para-Tree Bool gapless_step t) (all_gapless ts) (All-head IsGapless t ts h) (all_in ts (All-tail IsGapless t ts h))

in_all : (ts : List Tree) → all_gapless ts ≡ true → All IsGapless ts
in_all [] h = All-nil IsGapless
in_all (t ∷ ts) h =
    let b = both_true (para-Tree Bool gapless_step t) (all_gapless ts) h in
    All-cons IsGapless t ts b.0 (in_all ts b.1)

gapless_is : (t : Tree) → para-Tree Bool gapless_step t ≡ (is_filled_by (span_of t) (children_of t) && all_gapless (children_of t))
gapless_is t =
    (ap (para-Tree Bool gapless_step) (sym (roll-out-Tree t)) ∙ para-roll-Tree Bool gapless_step (out-Tree t))
    ∙ ap (λ (us : List Tree). is_filled_by (span_of t) us && all_gapless (children_of t)) (same_trees (children_of t))

gapless_parts : (t : Tree) → IsGapless t → (is_filled_by (span_of t) (children_of t) ≡ true) × All IsGapless (children_of t)
gapless_parts t h =
    let b = both_true (is_filled_by (span_of t) (children_of t)) (all_gapless (children_of t)) (sym (gapless_is t) ∙ h) in
    (b.0, in_all (children_of t) b.1)

gapless_over : (symbol : ℕ) (production : Option ℕ) (dynamic : ℤ) (extent : ℕ) (state : Option ℕ) (es : List Element) (ks : List Tree) → All IsGapless ks → IsGapless (node_over symbol production dynamic extent state es ks)
gapless_over symbol production dynamic extent state es ks a =
    para-roll-Tree Bool gapless_step (over_layer symbol production dynamic extent state es ks)
    ∙ (ap (λ (us : List Tree). is_filled_by (first_pad ks + (all_spans ks - first_pad ks)) us && all_gapless ks) (same_trees ks)
    ∙ both (is_filled_by (first_pad ks + (all_spans ks - first_pad ks)) ks) (all_gapless ks) (by ks) (all_in ks a))
  where
    by : (us : List Tree) → is_filled_by (first_pad us + (all_spans us - first_pad us)) us ≡ true
    by [] = refl
    by (u ∷ us) =
        let e : first_pad (u ∷ us) + (all_spans (u ∷ us) - first_pad (u ∷ us)) ≡ all_spans (u ∷ us) = omega (arith, first_pad_within (u ∷ us)) in
        eq-eqb (first_pad (u ∷ us) + (all_spans (u ∷ us) - first_pad (u ∷ us))) (all_spans (u ∷ us)) e

gapless_made : (f : Form) (symbol number : ℕ) (value : ℤ) (extent : ℕ) (state : Option ℕ) (ks : List Tree) → All IsGapless ks → IsGapless (made_by f symbol number value extent state ks)
gapless_made of_rule symbol number value extent state ks a = gapless_over _ _ _ _ _ _ ks a
gapless_made (of_first alternative) symbol number value extent state ks a = gapless_over _ _ _ _ _ _ ks a
gapless_made (of_next alternative) symbol number value extent state [] a = gapless_over _ _ _ _ _ _ [] a
gapless_made (of_next alternative) symbol number value extent state (before ∷ more) a =
    gapless_over _ _ _ _ _ _ (children_of before ++ more)
    (All-append IsGapless (children_of before) more (gapless_parts before (All-head IsGapless before more a)).1 (All-tail IsGapless before more a))

pub gapless_reduced : (g : FlatGrammar) (number extent : ℕ) (state : Option ℕ) (children : List Tree) → All IsGapless children → IsGapless (reduced g number extent state children)
gapless_reduced g number extent state children a =
    gapless_made (form_of g (left_of g number) number) (left_of g number) number (value_of g number) extent state children a

pub gapless_accepted : (root : Tree) (before after : List Tree) (extent : ℕ) → IsGapless root → All IsGapless before → All IsGapless after → IsGapless (accepted root before after extent)
gapless_accepted root before after extent h b a =
    gapless_over _ _ _ _ _ _ ((before ++ children_of root) ++ after)
    (All-append IsGapless (before ++ children_of root) after (All-append IsGapless before (children_of root) b (gapless_parts root h).1) a)

pub gapless_leaf : (token pad size extent : ℕ) (state : Option ℕ) → IsGapless (leaf_of token pad size extent state)
gapless_leaf token pad size extent state = para-roll-Tree Bool gapless_step (token_layer token pad size extent state)

pub gapless_extra : (t : Tree) → IsGapless t → IsGapless (as_extra t)
gapless_extra t h =
    para-roll-Tree Bool gapless_step (record (out-Tree t) { extra = true })
    ∙ (ap (λ (us : List Tree). is_filled_by (span_of t) us && all_gapless (children_of t)) (same_trees (children_of t))
    ∙ (sym (gapless_is t) ∙ h))

-- ---- leaves

abbrev with_leaves : List Tree → List (Tree × (ℕ → List LeafAt))
with_leaves ts = map (λ (t : Tree). (t, leaves_from t)) ts

leaves_is : (t : Tree) (place : ℕ) → leaves_from t place ≡ leaves_by (pad_of t) (size_of t) (with_leaves (children_of t)) place
leaves_is t place =
    ap (λ (f : ℕ → List LeafAt). f place) (ap leaves_from (sym (roll-out-Tree t)) ∙ para-roll-Tree (ℕ → List LeafAt) leaves_step (out-Tree t))

-- as many bytes of a text, from a place on
abbrev bytes_from : Bytes → ℕ → ℕ → Bytes
bytes_from w place many = take many (drop place w)

bytes_both : (w : Bytes) (place a b : ℕ) → bytes_from w place (a + b) ≡ bytes_from w place a ++ bytes_from w (place + a) b
bytes_both w place a b =
    take-add a b (drop place w)
    ∙ ap (λ (v : Bytes). take a (drop place w) ++ take b v) (drop-drop a place w)

-- the leaves of a tree, or of trees one after another, spell as many bytes as they are long
abbrev Spells : Bytes → Tree → Type 0
Spells w t = (place : ℕ) → leaves_bytes w (leaves_from t place) ≡ bytes_from w place (span_of t)

among_spells : (w : Bytes) (n : ℕ) → ((t : Tree) → tree_depth t ≤ n → IsGapless t → Spells w t)
    → (ts : List Tree) (place : ℕ) → greatest_depth ts ≤ n → All IsGapless ts → leaves_bytes w (leaves_among (with_leaves ts) place) ≡ bytes_from w place (all_spans ts)
among_spells w n f [] place h a = refl
among_spells w n f (t ∷ ts) place h a =
    flat_map-append (leaf_bytes w) (leaves_from t place) (leaves_among (with_leaves ts) (place + span_of t))
    ∙ (ap (λ (v : Bytes). v ++ leaves_bytes w (leaves_among (with_leaves ts) (place + span_of t))) (f t (omega (arith, h)) (All-head IsGapless t ts a) place)
    ∙ (ap (λ (v : Bytes). bytes_from w place (span_of t) ++ v) (among_spells w n f ts (place + span_of t) (omega (arith, h)) (All-tail IsGapless t ts a))
    ∙ sym (bytes_both w place (span_of t) (all_spans ts))))

node_spells : (w : Bytes) (n : ℕ) (t : Tree) → tree_depth t ≤ n → IsGapless t → Spells w t
node_spells w zero t h i place = absurd (omega (arith, h, fold_out-Tree ℕ depth_step t))
node_spells w (suc n) t h i place =
    ap (leaves_bytes w) (leaves_is t place)
    ∙ by (children_of t) (gapless_parts t i).0
    (among_spells w n (node_spells w n) (children_of t) place (let d : tree_depth t ≡ 1 + greatest_depth (children_of t) = fold_out-Tree ℕ depth_step t in omega (arith, h, d)) (gapless_parts t i).1)
  where
    by : (ks : List Tree) → is_filled_by (span_of t) ks ≡ true → leaves_bytes w (leaves_among (with_leaves ks) place) ≡ bytes_from w place (all_spans ks) → leaves_bytes w (leaves_by (pad_of t) (size_of t) (with_leaves ks) place) ≡ bytes_from w place (span_of t)
    by [] e s = append-nil _ ∙ sym (bytes_both w place (pad_of t) (size_of t))
    by (k ∷ ks) e s = s ∙ ap (bytes_from w place) (sym (eqb-true (span_of t) (all_spans (k ∷ ks)) e))

pub tree_spells : (w : Bytes) (t : Tree) → IsGapless t → leaves_bytes w (leaves_from t 0) ≡ take (span_of t) w
tree_spells w t i = node_spells w (tree_depth t) t (omega arith) i 0
