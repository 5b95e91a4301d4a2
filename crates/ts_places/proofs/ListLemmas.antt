-- Small lemmas on lists of trees and of links.
use Rattle.std.proofs.Common.{◌≡◌, ◌∙◌, sym, ap, refl, ℕ, ◌*◌, ◌<◌, ◌≤◌, Bool, true, false, List, [], ◌∷◌, ◌++◌, append_assoc, length, length-append, reverse, All, arith}
use Rattle.std.proofs.Math.Nat.{mul-le-mul_right}
use Rattle.std.proofs.lemmas.List.{reverse-append, reverse-reverse}
use Rattle.std.proofs.lemmas.List.Elements.{All-cons, All-nil}
use Rattle.ts_core.specs.declared.flat.FlatGrammar.{FlatGrammar}
use Rattle.spec_trees.specs.declared.tree.Tree.{Tree}
use Rattle.spec_trees.specs.Trees.{symbol_of, is_extra_node, is_settled, span_of, all_spans, node_count, all_nodes, tree_depth, greatest_depth}
use Rattle.spec_trees.specs.Made.{filling}
use Rattle.spec_trees.specs.Choice.{IsInForm}
use Rattle.spec_runs.specs.Configurations.{AreExtras}
use Rattle.ts_reductions.specs.Good.{IsGoodTree, AreGoodTrees}
use Rattle.ts_reductions.proofs.SmallLemmas.{filling_tree, filling_extra, filling_append}

-- ---- what fills steps

pub none_fill : (ts : List Tree) → length (filling ts) ≡ 0 → AreExtras ts
none_fill [] e = tt
none_fill (t ∷ ts) e = by (is_extra_node t) refl (none_fill ts)
  where
    by : (b : Bool) → is_extra_node t ≡ b → (length (filling ts) ≡ 0 → AreExtras ts) → AreExtras (t ∷ ts)
    by true k rest = (k, rest (sym (ap (λ (l : List ℕ). length l) (filling_extra t ts k)) ∙ e))
    by false k rest = absurd (let n = ap (λ (l : List ℕ). length l) (filling_tree t ts k) in omega (arith, n, e))

-- one tree fills a step, and it is the last one
pub record OneFills (front : List Tree) (last : Tree) (start : ℕ) : Type 0 where
  pub extras : AreExtras front
  pub symbol : symbol_of last ≡ start

pub one_fills : (front : List Tree) (last : Tree) (start : ℕ) → is_extra_node last ≡ false → filling (front ++ last ∷ []) ≡ start ∷ [] → OneFills front last start
one_fills front last start fills all =
    let one : filling (last ∷ []) ≡ symbol_of last ∷ [] = filling_tree last [] fills in
    let sum : filling front ++ filling (last ∷ []) ≡ start ∷ [] = sym (filling_append front (last ∷ [])) ∙ all in
    let both : filling front ++ symbol_of last ∷ [] ≡ start ∷ [] = ap (λ (l : List ℕ). filling front ++ l) (sym one) ∙ sum in
    let n = length-append (filling front) (symbol_of last ∷ []) in
    let m = ap (λ (l : List ℕ). length l) both in
    let zero_front : length (filling front) ≡ 0 = omega (arith, n, m) in
    record {
      extras = none_fill front zero_front;
      symbol = first (filling front) zero_front both;
    }
  where
    first : (xs : List ℕ) → length xs ≡ 0 → xs ++ symbol_of last ∷ [] ≡ start ∷ [] → symbol_of last ≡ start
    first [] e h = cc
    first (x ∷ xs) e h = absurd (omega (arith, e))

pub all_extra : (ts : List Tree) → AreExtras ts → All (λ node. is_extra_node node ≡ true) ts
all_extra [] a = All-nil (λ node. is_extra_node node ≡ true)
all_extra (t ∷ ts) a = All-cons (λ node. is_extra_node node ≡ true) t ts a.0 (all_extra ts a.1)

-- ---- turned lists

pub turned : {X : Type 0} (x : X) (xs : List X) → reverse (x ∷ xs) ≡ reverse xs ++ x ∷ []
turned x xs = reverse-append (x ∷ []) xs

pub back_again : (before after : List Tree) (root : Tree) → reverse (reverse after ++ root ∷ reverse before) ≡ before ++ root ∷ after
back_again before after root =
    reverse-append (reverse after) (root ∷ reverse before)
    ∙ ap (λ (l : List Tree). l ++ reverse (reverse after)) (turned root (reverse before))
    ∙ ap (λ (l : List Tree). (l ++ root ∷ []) ++ reverse (reverse after)) (reverse-reverse before)
    ∙ ap (λ (l : List Tree). (before ++ root ∷ []) ++ l) (reverse-reverse after)
    ∙ append_assoc before (root ∷ []) after

-- ---- the last of a list

pub record Ended {X : Type 0} (xs : List X) : Type 0 where
  pub front : List X
  pub last : X
  pub is : xs ≡ front ++ last ∷ []

pub ended : {X : Type 0} (xs : List X) → 0 < length xs → Ended xs
ended [] lt = absurd (omega (arith, lt))
ended (x ∷ []) lt = record { front = []; last = x; is = refl }
ended {X = X} (x ∷ y ∷ xs) lt =
    let r = ended (y ∷ xs) (omega arith) in
    record { front = x ∷ r.front; last = r.last; is = ap (λ (l : List X). x ∷ l) r.is }

-- ---- good trees

module _ (g : FlatGrammar) where
  pub good_left : (xs ys : List Tree) → AreGoodTrees g (xs ++ ys) → AreGoodTrees g xs
  good_left [] ys a = tt
  good_left (x ∷ xs) ys a = (a.0, good_left xs ys a.1)

  pub good_right : (xs ys : List Tree) → AreGoodTrees g (xs ++ ys) → AreGoodTrees g ys
  good_right [] ys a = a
  good_right (x ∷ xs) ys a = good_right xs ys a.1

  pub all_settled : (ts : List Tree) → AreGoodTrees g ts → All (λ child. is_settled child ≡ true) ts
  all_settled [] a = All-nil (λ child. is_settled child ≡ true)
  all_settled (t ∷ ts) a = All-cons (λ child. is_settled child ≡ true) t ts a.0.settled (all_settled ts a.1)

  pub all_in_form : (ts : List Tree) → AreGoodTrees g ts → All (IsInForm g) ts
  all_in_form [] a = All-nil (IsInForm g)
  all_in_form (t ∷ ts) a = All-cons (IsInForm g) t ts a.0.form (all_in_form ts a.1)

  -- a tree has few nodes for its bytes
  pub few_nodes : (t : Tree) → IsGoodTree g t → node_count t ≤ 2 * (1000 * span_of t)
  few_nodes t a =
      let deep : tree_depth t * span_of t ≤ 1000 * span_of t = mul-le-mul_right (span_of t) a.node.sized.shallow in
      let few = a.few in
      omega (arith, deep, few)

  pub all_few : (ts : List Tree) → AreGoodTrees g ts → all_nodes ts ≤ 2 * (1000 * all_spans ts)
  all_few [] a = omega arith
  all_few (t ∷ ts) a = let n = few_nodes t a.0 in let m = all_few ts a.1 in omega (arith, n, m)

  pub flat_extras : (ts : List Tree) → AreGoodTrees g ts → AreExtras ts → greatest_depth ts ≤ 1
  flat_extras [] a e = omega arith
  flat_extras (t ∷ ts) a e = let h = a.0.flat e.0 in omega (arith, h, flat_extras ts a.1 e.1)
