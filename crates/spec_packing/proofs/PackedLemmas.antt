-- PackedStack stand for what runs come to from what they stand for, and each of their depths is met.
use Rattle.std.proofs.Common.{◌≡◌, ◌∙◌, sym, ap, refl, subst, ℕ, zero, suc, ◌+◌, ◌<◌, ◌≤◌, ◌⊎◌, inl, inr, max, Bool, true, false, List, [], ◌∷◌, ◌++◌, length, map, reverse, slice_get, Option, Some, None, arith}
use Rattle.std.proofs.lemmas.Bool.{cases_order}
use Rattle.std.proofs.lemmas.List.{reverse-append, reverse-reverse}
use Rattle.ts_base.specs.Bytes.{Bytes}
use Rattle.ts_core.specs.declared.flat.FlatGrammar.{FlatGrammar}
use Rattle.ts_core.specs.declared.flat.Production.{Production}
use Rattle.spec_lexing.specs.Lexing.{token}
use Rattle.spec_grammar.specs.Symbols.{production_at}
use Rattle.spec_tables.specs.Actions.{Move, shift, reduce}
use Rattle.spec_tables.specs.Fit.{Fit}
use Rattle.spec_trees.specs.declared.tree.Tree.{Tree}
use Rattle.spec_trees.specs.Trees.{symbol_of, pad_of, size_of, is_extra_node, span_of, all_spans, first_pad, tree_depth, bare}
use Rattle.spec_trees.specs.Made.{as_extra, reduced, form_of, Form, filling, BeginsFilled, most_depth}
use Rattle.spec_trees.specs.Choice.{Better}
use Rattle.spec_runs.specs.Configurations.{Configuration, starting, stack_symbols, token_tree, pushed, AreExtras, IsReduction}
use Rattle.spec_runs.specs.Moves.{EndsWithProduction}
use Rattle.spec_runs.specs.Runs.{CanMove, StepsOn, shift_token, pass_extra, reduce_trees, Run, run_here, run_on, IsReached, ComesTooDeep, AcceptsTree, StopsAt}
use Rattle.spec_runs.specs.Outcomes.{SomeIsTooDeep}
use Rattle.spec_packing.specs.Replacing.{Replaces, AllReplace, depth_over}
use Rattle.spec_packing.specs.Packing.{PackedTree, PackedStack, packed_trees, packed_depths, own_config, packed_alone, stack_alone, CoversTree, AllCover, Covers, Packs, WasMet, GoesThrough, packed_with, IsPackedReduction, PackedStepsOn, shift_packed, pass_packed, reduce_packed, PackedIsTooDeep, joined, joined_stacks, MayJoin}
use Rattle.spec_packing.specs.Laws.{RunLaws}
use Rattle.spec_packing.proofs.ReplaceLemmas.{AllDeeper, deeper_over, replaces_itself, replaces_chain, replaces_bare, all_append, all_turned}
use Rattle.spec_packing.proofs.MadeLemmas.{AllMade, CanMake}
use Rattle.spec_packing.proofs.ReducedLemmas.{replaces_reduced}
use Rattle.spec_packing.proofs.ReachedLemmas.{lawful, reduction_makes, made_reached}
use Rattle.spec_packing.proofs.DepthLemmas.{reduced_says, behind, ComesFrom, AtNode, comes_any}
use Rattle.spec_packing.proofs.RunLemmas.{next_alike, act_alike, none_alike, move_alike, stops_alike, accept_replaced}

-- ---- trees and depths of lists in a row

trees_append : (xs ys : List PackedTree) → packed_trees (xs ++ ys) ≡ packed_trees xs ++ packed_trees ys
trees_append [] ys = refl
trees_append (x ∷ xs) ys = ap (λ (l : List Tree). x.tree ∷ l) (trees_append xs ys)

trees_turned : (ls : List PackedTree) → packed_trees (reverse ls) ≡ reverse (packed_trees ls)
trees_turned [] = refl
trees_turned (l ∷ ls) =
    ap (λ (x : List PackedTree). packed_trees x) (reverse-append (l ∷ []) ls) ∙ trees_append (reverse ls) (l ∷ [])
    ∙ ap (λ (x : List Tree). x ++ l.tree ∷ []) (trees_turned ls) ∙ sym (reverse-append (l.tree ∷ []) (packed_trees ls))

depths_append : (xs ys : List PackedTree) → packed_depths (xs ++ ys) ≡ packed_depths xs ++ packed_depths ys
depths_append [] ys = refl
depths_append (x ∷ xs) ys = ap (λ (l : List ℕ). x.depth ∷ l) (depths_append xs ys)

depths_turned : (ls : List PackedTree) → packed_depths (reverse ls) ≡ reverse (packed_depths ls)
depths_turned [] = refl
depths_turned (l ∷ ls) =
    ap (λ (x : List PackedTree). packed_depths x) (reverse-append (l ∷ []) ls) ∙ depths_append (reverse ls) (l ∷ [])
    ∙ ap (λ (x : List ℕ). x ++ l.depth ∷ []) (depths_turned ls) ∙ sym (reverse-append (l.depth ∷ []) (packed_depths ls))

abbrev own_depths : List Tree → List ℕ
own_depths ts = map tree_depth ts

own_append : (xs ys : List Tree) → own_depths (xs ++ ys) ≡ own_depths xs ++ own_depths ys
own_append [] ys = refl
own_append (x ∷ xs) ys = ap (λ (l : List ℕ). tree_depth x ∷ l) (own_append xs ys)

own_turned : (ts : List Tree) → own_depths (reverse ts) ≡ reverse (own_depths ts)
own_turned [] = refl
own_turned (t ∷ ts) =
    ap (λ (x : List Tree). own_depths x) (reverse-append (t ∷ []) ts) ∙ own_append (reverse ts) (t ∷ [])
    ∙ ap (λ (x : List ℕ). x ++ tree_depth t ∷ []) (own_turned ts) ∙ sym (reverse-append (tree_depth t ∷ []) (own_depths ts))

-- ---- layers that stand for trees, one by one

stand_deeper : (ls : List PackedTree) (ts : List Tree) → AllCover ls ts → AllDeeper (packed_depths ls) (own_depths ts)
stand_deeper [] [] a = tt
stand_deeper [] (t ∷ ts) a = absurd a
stand_deeper (l ∷ ls) [] a = absurd a
stand_deeper (l ∷ ls) (t ∷ ts) a = (a.0.depth, stand_deeper ls ts a.1)

stand_length : (ls : List PackedTree) (ts : List Tree) → AllCover ls ts → length (packed_depths ls) ≡ length (own_depths ts)
stand_length [] [] a = refl
stand_length [] (t ∷ ts) a = absurd a
stand_length (l ∷ ls) [] a = absurd a
stand_length (l ∷ ls) (t ∷ ts) a = ap suc (stand_length ls ts a.1)

stand_symbols : (ls : List PackedTree) (ts : List Tree) → AllCover ls ts → filling (packed_trees ls) ≡ filling ts
stand_symbols [] [] a = refl
stand_symbols [] (t ∷ ts) a = absurd a
stand_symbols (l ∷ ls) [] a = absurd a
stand_symbols (l ∷ ls) (t ∷ ts) a = by (is_extra_node t) a.0.extra refl (stand_symbols ls ts a.1)
  where
    by : (b : Bool) → is_extra_node l.tree ≡ b → is_extra_node t ≡ b → filling (packed_trees ls) ≡ filling ts → filling (packed_trees (l ∷ ls)) ≡ filling (t ∷ ts)
    by true x y h = rw (x, y) h
    by false x y h = rw (x, y) (let s : symbol_of l.tree ≡ symbol_of t = a.0.symbol in let e : symbol_of l.tree ∷ filling (packed_trees ls) ≡ symbol_of t ∷ filling ts = cc in e)

stand_spans : (ls : List PackedTree) (ts : List Tree) → AllCover ls ts → all_spans (packed_trees ls) ≡ all_spans ts
stand_spans [] [] a = refl
stand_spans [] (t ∷ ts) a = absurd a
stand_spans (l ∷ ls) [] a = absurd a
stand_spans (l ∷ ls) (t ∷ ts) a = let p = a.0.pad in let z = a.0.size in omega (arith, p, z, stand_spans ls ts a.1)

stand_pad : (ls : List PackedTree) (ts : List Tree) → AllCover ls ts → first_pad (packed_trees ls) ≡ first_pad ts
stand_pad [] [] a = refl
stand_pad [] (t ∷ ts) a = absurd a
stand_pad (l ∷ ls) [] a = absurd a
stand_pad (l ∷ ls) (t ∷ ts) a = a.0.pad

stand_append : (ls ms : List PackedTree) (ts us : List Tree) → AllCover ls ts → AllCover ms us → AllCover (ls ++ ms) (ts ++ us)
stand_append [] ms [] us a b = b
stand_append [] ms (t ∷ ts) us a b = absurd a
stand_append (l ∷ ls) ms [] us a b = absurd a
stand_append (l ∷ ls) ms (t ∷ ts) us a b = (a.0, stand_append ls ms ts us a.1 b)

stand_turned : (ls : List PackedTree) (ts : List Tree) → AllCover ls ts → AllCover (reverse ls) (reverse ts)
stand_turned [] [] a = tt
stand_turned [] (t ∷ ts) a = absurd a
stand_turned (l ∷ ls) [] a = absurd a
stand_turned (l ∷ ls) (t ∷ ts) a =
    subst (λ (x : List PackedTree). AllCover x (reverse (t ∷ ts))) (sym (reverse-append (l ∷ []) ls))
    (subst (λ (x : List Tree). AllCover (reverse ls ++ l ∷ []) x) (sym (reverse-append (t ∷ []) ts))
    (stand_append (reverse ls) (l ∷ []) (reverse ts) (t ∷ []) (stand_turned ls ts a.1) (a.0, tt)))

-- what layers in a row stand for
record TreesFor (ls ms : List PackedTree) (ts : List Tree) : Type 0 where
  left : List Tree
  right : List Tree
  is : ts ≡ left ++ right
  first : AllCover ls left
  second : AllCover ms right

trees_for : (ls ms : List PackedTree) (ts : List Tree) → AllCover (ls ++ ms) ts → TreesFor ls ms ts
trees_for [] ms ts a = record { left = []; right = ts; is = refl; first = tt; second = a }
trees_for (l ∷ ls) ms [] a = absurd a
trees_for (l ∷ ls) ms (t ∷ ts) a =
    let s = trees_for ls ms ts a.1 in
    record { left = t ∷ s.left; right = s.right; is = ap (λ (x : List Tree). t ∷ x) s.is; first = (a.0, s.first); second = s.second }

-- what stands for trees in a row
record LayersFor (ls : List PackedTree) (ts us : List Tree) : Type 0 where
  left : List PackedTree
  right : List PackedTree
  is : ls ≡ left ++ right
  first : AllCover left ts
  second : AllCover right us

layers_for : (ls : List PackedTree) (ts us : List Tree) → AllCover ls (ts ++ us) → LayersFor ls ts us
layers_for ls [] us a = record { left = []; right = ls; is = refl; first = tt; second = a }
layers_for [] (t ∷ ts) us a = absurd a
layers_for (l ∷ ls) (t ∷ ts) us a =
    let s = layers_for ls ts us a.1 in
    record { left = l ∷ s.left; right = s.right; is = ap (λ (x : List PackedTree). l ∷ x) s.is; first = (a.0, s.first); second = s.second }

-- what layers stand for in the places of a reduction
record Pieces (ls ks bs : List PackedTree) (ts : List Tree) : Type 0 where
  lifted : List Tree
  children : List Tree
  below : List Tree
  is : ts ≡ lifted ++ (reverse children ++ below)
  first : AllCover ls lifted
  inner : AllCover ks children
  last : AllCover bs below

pieces_of : (ls ks bs : List PackedTree) (ts : List Tree) → AllCover (ls ++ (reverse ks ++ bs)) ts → Pieces ls ks bs ts
pieces_of ls ks bs ts a =
    let s = trees_for ls (reverse ks ++ bs) ts a in
    let r = trees_for (reverse ks) bs s.right s.second in
    let turned : r.left ≡ reverse (reverse r.left) = sym (reverse-reverse r.left) in
    record {
      lifted = s.left;
      children = reverse r.left;
      below = r.right;
      is = s.is ∙ ap (λ (x : List Tree). s.left ++ x) (r.is ∙ ap (λ (x : List Tree). x ++ r.right) turned);
      first = s.first;
      inner = subst (λ (x : List PackedTree). AllCover x (reverse r.left)) (reverse-reverse ks) (stand_turned (reverse ks) r.left r.first);
      last = r.second;
    }

extras_on : (ls : List PackedTree) (ts : List Tree) → AllCover ls ts → AreExtras (packed_trees ls) → AreExtras ts
extras_on [] [] a h = tt
extras_on [] (t ∷ ts) a h = absurd a
extras_on (l ∷ ls) [] a h = absurd a
extras_on (l ∷ ls) (t ∷ ts) a h = (sym a.0.extra ∙ h.0, extras_on ls ts a.1 h.1)

extras_back : (ls : List PackedTree) (ts : List Tree) → AllCover ls ts → AreExtras ts → AreExtras (packed_trees ls)
extras_back [] ts a h = tt
extras_back (l ∷ ls) [] a h = absurd a
extras_back (l ∷ ls) (t ∷ ts) a h = (a.0.extra ∙ h.0, extras_back ls ts a.1 h.1)

begins_on : (ls : List PackedTree) (ts : List Tree) → AllCover ls ts → BeginsFilled (packed_trees ls) → BeginsFilled ts
begins_on [] [] a h = tt
begins_on [] (t ∷ ts) a h = absurd a
begins_on (l ∷ ls) [] a h = absurd a
begins_on (l ∷ ls) (t ∷ ts) a h = sym a.0.extra ∙ h

begins_back : (ls : List PackedTree) (ts : List Tree) → AllCover ls ts → BeginsFilled ts → BeginsFilled (packed_trees ls)
begins_back [] ts a h = tt
begins_back (l ∷ ls) [] a h = absurd a
begins_back (l ∷ ls) (t ∷ ts) a h = a.0.extra ∙ h

-- ---- trees that replace others, in parts of the same lengths

replace_left : (xs ys us vs : List Tree) → length xs ≡ length us → AllReplace (xs ++ ys) (us ++ vs) → AllReplace xs us
replace_left [] ys [] vs e a = tt
replace_left [] ys (u ∷ us) vs e a = absurd (omega (arith, e))
replace_left (x ∷ xs) ys [] vs e a = absurd (omega (arith, e))
replace_left (x ∷ xs) ys (u ∷ us) vs e a = (a.0, replace_left xs ys us vs (omega (arith, e)) a.1)

replace_right : (xs ys us vs : List Tree) → length xs ≡ length us → AllReplace (xs ++ ys) (us ++ vs) → AllReplace ys vs
replace_right [] ys [] vs e a = a
replace_right [] ys (u ∷ us) vs e a = absurd (omega (arith, e))
replace_right (x ∷ xs) ys [] vs e a = absurd (omega (arith, e))
replace_right (x ∷ xs) ys (u ∷ us) vs e a = replace_right xs ys us vs (omega (arith, e)) a.1

same_many : (ls : List PackedTree) (ts : List Tree) → AllCover ls ts → length (packed_trees ls) ≡ length ts
same_many [] [] a = refl
same_many [] (t ∷ ts) a = absurd a
same_many (l ∷ ls) [] a = absurd a
same_many (l ∷ ls) (t ∷ ts) a = ap suc (same_many ls ts a.1)

-- ---- layers that stand for their own trees

-- no tree is deeper than its layer says
abbrev AreBounds : List PackedTree → Type 0
AreBounds [] = Unit {0}
AreBounds (l ∷ ls) = (tree_depth l.tree ≤ l.depth) × AreBounds ls

bounds_of : (ls : List PackedTree) → AllCover ls (packed_trees ls) → AreBounds ls
bounds_of [] a = tt
bounds_of (l ∷ ls) a = (a.0.depth, bounds_of ls a.1)

own_stand : (ls : List PackedTree) → AreBounds ls → AllCover ls (packed_trees ls)
own_stand [] a = tt
own_stand (l ∷ ls) a = (record { symbol = refl; extra = refl; pad = refl; size = refl; depth = a.0 }, own_stand ls a.1)

bounds_left : (ls ms : List PackedTree) → AreBounds (ls ++ ms) → AreBounds ls
bounds_left [] ms a = tt
bounds_left (l ∷ ls) ms a = (a.0, bounds_left ls ms a.1)

bounds_right : (ls ms : List PackedTree) → AreBounds (ls ++ ms) → AreBounds ms
bounds_right [] ms a = a
bounds_right (l ∷ ls) ms a = bounds_right ls ms a.1

bounds_append : (ls ms : List PackedTree) → AreBounds ls → AreBounds ms → AreBounds (ls ++ ms)
bounds_append [] ms a b = b
bounds_append (l ∷ ls) ms a b = (a.0, bounds_append ls ms a.1 b)

bounds_turned : (ls : List PackedTree) → AreBounds ls → AreBounds (reverse ls)
bounds_turned [] a = tt
bounds_turned (l ∷ ls) a = subst (λ (x : List PackedTree). AreBounds x) (sym (reverse-append (l ∷ []) ls)) (bounds_append (reverse ls) (l ∷ []) (bounds_turned ls a.1) (a.0, tt))

bounds_back : (ls : List PackedTree) → AreBounds (reverse ls) → AreBounds ls
bounds_back ls a = subst (λ (x : List PackedTree). AreBounds x) (reverse-reverse ls) (bounds_turned (reverse ls) a)

-- the own layers of trees
own_trees : (ts : List Tree) → packed_trees (map packed_alone ts) ≡ ts
own_trees [] = refl
own_trees (t ∷ ts) = ap (λ (x : List Tree). t ∷ x) (own_trees ts)

own_layers_stand : (ts : List Tree) → AllCover (map packed_alone ts) ts
own_layers_stand [] = tt
own_layers_stand (t ∷ ts) = (record { symbol = refl; extra = refl; pad = refl; size = refl; depth = omega arith }, own_layers_stand ts)

all_itself : (ts : List Tree) → AllReplace ts ts
all_itself [] = tt
all_itself (t ∷ ts) = (replaces_itself t, all_itself ts)

own_layer_depths : (ts : List Tree) → packed_depths (map packed_alone ts) ≡ own_depths ts
own_layer_depths [] = refl
own_layer_depths (t ∷ ts) = ap (λ (x : List ℕ). tree_depth t ∷ x) (own_layer_depths ts)

-- ---- runs that go on

run_further : (g : FlatGrammar) (text : Bytes) (a c d : Configuration) → Run g text a c → StepsOn g text c d → Run g text a d
run_further g text a _ d (run_here _) step = run_on a d d step (run_here d)
run_further g text a c d (run_on _ b _ first rest) step = run_on a b d first (run_further g text b c d rest step)

-- ---- reductions

-- the reduction of the layers' own trees
own_reduction : (g : FlatGrammar) (number : ℕ) (ks : List PackedTree) (node : PackedTree) (after : List PackedTree) → IsPackedReduction g number ks node after → IsReduction g number (packed_trees ks) node.tree (packed_trees after)
own_reduction g number ks node after r =
    let inner : packed_trees (reverse r.children ++ r.below) ≡ reverse (packed_trees r.children) ++ packed_trees r.below =
    trees_append (reverse r.children) r.below ∙ ap (λ (x : List Tree). x ++ packed_trees r.below) (trees_turned r.children) in
    record {
      left = r.left;
      production = r.production;
      at = r.at;
      lifted = packed_trees r.lifted;
      children = packed_trees r.children;
      below = packed_trees r.below;
      stack_is = ap (λ (x : List PackedTree). packed_trees x) r.stack_is ∙ trees_append r.lifted (reverse r.children ++ r.below) ∙ ap (λ (x : List Tree). packed_trees r.lifted ++ x) inner;
      extras = r.extras;
      all_lifted = subst (λ (x : List Tree). BeginsFilled x) inner r.all_lifted;
      count = r.count;
      first_fills = r.first_fills;
      node_is = r.tree_is;
      after_is = ap (λ (x : List PackedTree). packed_trees x) r.after_is ∙ trees_append r.lifted (node ∷ r.below);
    }

module _ (laws : RunLaws) (g : FlatGrammar) (fit : Fit g) where
  -- what the node over layers covers
  node_stands : (number left : ℕ) (p : Production) → production_at g number ≡ Some (left, p) → (ks : List PackedTree) (ts : List Tree) → CanMake g number left p (packed_trees ks) → CanMake g number left p ts → AllCover ks ts
      → (tree_depth (bare (reduced g number 0 None ts)) ≡ depth_over (form_of g left number) (own_depths ts))
      × CoversTree (record { tree = bare (reduced g number 0 None (packed_trees ks)); depth = depth_over (form_of g left number) (packed_depths ks) }) (bare (reduced g number 0 None ts))
  node_stands number left p at ks ts x y a =
      let own : Tree = reduced g number 0 None (packed_trees ks) in
      let made : Tree = reduced g number 0 None ts in
      let j = laws.keeps own in
      let k = laws.keeps made in
      let l = lawful laws g fit number left p at in
      let v = reduced_says g number left p l (packed_trees ks) x in
      let w = reduced_says g number left p l ts y in
      let pads : pad_of (bare own) ≡ pad_of (bare made) = j.pad ∙ v.pad ∙ stand_pad ks ts a ∙ sym w.pad ∙ sym k.pad in
      let depth : tree_depth (bare made) ≡ depth_over (form_of g left number) (own_depths ts) = k.depth ∙ w.depth in (
        depth,
        record {
          symbol = j.symbol ∙ v.symbol ∙ sym w.symbol ∙ sym k.symbol;
          extra = j.extra ∙ v.kind ∙ sym w.kind ∙ sym k.extra;
          pad = pads;
          size = omega (arith, j.pad, j.size, k.pad, k.size, v.pad, w.pad, v.span, w.span, stand_pad ks ts a, stand_spans ks ts a);
          depth = omega (arith, depth, deeper_over (form_of g left number) (packed_depths ks) (own_depths ts) (stand_deeper ks ts a));
        },
      )

  -- a reduction of what layers stand for
  record Reduces (number : ℕ) (ls bs : List PackedTree) (node : PackedTree) (ks : List ℕ) (f : Form) (stack : List Tree) : Type 0 where
    made : Tree
    lifted : List Tree
    below : List Tree
    reduction : IsReduction g number stack made (lifted ++ made ∷ below)
    first : AllCover ls lifted
    node_for : CoversTree node made
    last : AllCover bs below
    children : List ℕ
    depths_are : own_depths stack ≡ own_depths lifted ++ (reverse children ++ own_depths below)
    many : length ks ≡ length children
    deeper : AllDeeper ks children
    depth_is : tree_depth made ≡ depth_over f children

  module _ (number : ℕ) (ks : List PackedTree) (node : PackedTree) (after : List PackedTree) (r : IsPackedReduction g number ks node after) (own_made : AllMade g (packed_trees ks)) (ending : EndsWithProduction g (stack_symbols (packed_trees ks)) number) where
    reduces_for : (ts : List Tree) → AllMade g ts → AllCover ks ts → Reduces number r.lifted r.below node (packed_depths r.children) (form_of g r.left number) ts
    unfolding own_reduction
    reduces_for ts made a =
        let p = pieces_of r.lifted r.children r.below ts (subst (λ (x : List PackedTree). AllCover x ts) r.stack_is a) in
        let m : Tree = bare (reduced g number 0 None p.children) in
        let extras = extras_on r.lifted p.lifted p.first r.extras in
        let inner : AllCover (reverse r.children ++ r.below) (reverse p.children ++ p.below) =
        stand_append (reverse r.children) r.below (reverse p.children) p.below (stand_turned r.children p.children p.inner) p.last in
        let begins = begins_on (reverse r.children ++ r.below) (reverse p.children ++ p.below) inner r.all_lifted in
        let reduction : IsReduction g number ts m (p.lifted ++ m ∷ p.below) = record {
          left = r.left;
          production = r.production;
          at = r.at;
          lifted = p.lifted;
          children = p.children;
          below = p.below;
          stack_is = p.is;
          extras = extras;
          all_lifted = begins;
          count = ap (λ (l : List ℕ). length l) (sym (stand_symbols r.children p.children p.inner)) ∙ r.count;
          first_fills = begins_on r.children p.children p.inner r.first_fills;
          node_is = refl;
          after_is = refl;
        } in
        let other : EndsWithProduction g (stack_symbols ts) number = subst (λ (read : List ℕ). EndsWithProduction g read number) (stand_symbols ks ts a) ending in
        let x = reduction_makes laws g fit number (packed_trees ks) node.tree (packed_trees after) ending own_made (own_reduction g number ks node after r) in
        let y = reduction_makes laws g fit number ts m (p.lifted ++ m ∷ p.below) other made reduction in
        let w = node_stands number r.left r.production r.at r.children p.children x y p.inner in
        record {
          made = m;
          lifted = p.lifted;
          below = p.below;
          reduction = reduction;
          first = p.first;
          node_for = record {
            symbol = ap symbol_of r.tree_is ∙ w.1.symbol;
            extra = ap is_extra_node r.tree_is ∙ w.1.extra;
            pad = ap pad_of r.tree_is ∙ w.1.pad;
            size = ap size_of r.tree_is ∙ w.1.size;
            depth = let h = w.1.depth in omega (arith, h, r.depth_is);
          };
          last = p.last;
          children = own_depths p.children;
          depths_are = ap (λ (l : List Tree). own_depths l) p.is ∙ own_append p.lifted (reverse p.children ++ p.below)
              ∙ ap (λ (l : List ℕ). own_depths p.lifted ++ l) (own_append (reverse p.children) p.below ∙ ap (λ (l : List ℕ). l ++ own_depths p.below) (own_turned p.children));
          many = stand_length r.children p.children p.inner;
          deeper = stand_deeper r.children p.children p.inner;
          depth_is = w.0;
        }

  -- a reduction of layers that stand for what is reduced
  record PackedReduces (number : ℕ) (ks : List PackedTree) (made : Tree) (left : List Tree) : Type 0 where
    node : PackedTree
    after : List PackedTree
    reduction : IsPackedReduction g number ks node after
    node_for : CoversTree node made
    after_for : AllCover after left
    trees_after : AllReplace (packed_trees after) left

  layers_reduced : (number : ℕ) (ks : List PackedTree) (ts : List Tree) (made : Tree) (left : List Tree) → AllMade g (packed_trees ks) → AllMade g ts → EndsWithProduction g (stack_symbols ts) number → AllCover ks ts → AllReplace (packed_trees ks) ts → IsReduction g number ts made left → PackedReduces number ks made left
  unfolding own_reduction
  layers_reduced number ks ts made left own_made other_made ends a replace r =
      let s = layers_for ks r.lifted (reverse r.children ++ r.below) (subst (λ (l : List Tree). AllCover ks l) r.stack_is a) in
      let b = layers_for s.right (reverse r.children) r.below s.second in
      let forth : List PackedTree = reverse b.left in
      let left_is : b.left ≡ reverse forth = sym (reverse-reverse b.left) in
      let inner : AllCover forth r.children = subst (λ (l : List Tree). AllCover forth l) (reverse-reverse r.children) (stand_turned b.left (reverse r.children) b.first) in
      let right_is : s.right ≡ reverse forth ++ b.right = b.is ∙ ap (λ (l : List PackedTree). l ++ b.right) left_is in
      let node : PackedTree = record { tree = bare (reduced g number 0 None (packed_trees forth)); depth = depth_over (form_of g r.left number) (packed_depths forth) } in
      let after : List PackedTree = s.left ++ node ∷ b.right in
      let reduction : IsPackedReduction g number ks node after = record {
        left = r.left;
        production = r.production;
        at = r.at;
        lifted = s.left;
        children = forth;
        below = b.right;
        stack_is = s.is ∙ ap (λ (l : List PackedTree). s.left ++ l) right_is;
        extras = extras_back s.left r.lifted s.first r.extras;
        all_lifted = begins_back (reverse forth ++ b.right) (reverse r.children ++ r.below)
            (subst (λ (l : List PackedTree). AllCover l (reverse r.children ++ r.below)) right_is s.second) r.all_lifted;
        count = ap (λ (l : List ℕ). length l) (stand_symbols forth r.children inner) ∙ r.count;
        first_fills = begins_back forth r.children inner r.first_fills;
        tree_is = refl;
        depth_is = refl;
        after_is = refl;
      } in
      let own_ends : EndsWithProduction g (stack_symbols (packed_trees ks)) number = subst (λ (read : List ℕ). EndsWithProduction g read number) (sym (stand_symbols ks ts a)) ends in
      let x = reduction_makes laws g fit number (packed_trees ks) node.tree (packed_trees after) own_ends own_made (own_reduction g number ks node after reduction) in
      let y = reduction_makes laws g fit number ts made left ends other_made r in
      let w = node_stands number r.left r.production r.at forth r.children x y inner in
      let serves : CoversTree node made = subst (λ (t : Tree). CoversTree node t) (sym r.node_is) w.1 in
      let all_trees : packed_trees ks ≡ packed_trees s.left ++ (packed_trees b.left ++ packed_trees b.right) =
      ap (λ (l : List PackedTree). packed_trees l) s.is ∙ trees_append s.left s.right
      ∙ ap (λ (l : List Tree). packed_trees s.left ++ l) (ap (λ (l : List PackedTree). packed_trees l) b.is ∙ trees_append b.left b.right) in
      let whole : AllReplace (packed_trees s.left ++ (packed_trees b.left ++ packed_trees b.right)) (r.lifted ++ (reverse r.children ++ r.below)) =
      subst (λ (l : List Tree). AllReplace l (r.lifted ++ (reverse r.children ++ r.below))) all_trees (subst (λ (l : List Tree). AllReplace (packed_trees ks) l) r.stack_is replace) in
      let lower = replace_right (packed_trees s.left) (packed_trees b.left ++ packed_trees b.right) r.lifted (reverse r.children ++ r.below) (same_many s.left r.lifted s.first) whole in
      let turned : AllReplace (packed_trees b.left) (reverse r.children) = replace_left (packed_trees b.left) (packed_trees b.right) (reverse r.children) r.below (same_many b.left (reverse r.children) b.first) lower in
      let forth_trees : reverse (packed_trees b.left) ≡ packed_trees forth = sym (trees_turned b.left) in
      let kids : AllReplace (packed_trees forth) r.children =
      subst (λ (l : List Tree). AllReplace l r.children) forth_trees (subst (λ (l : List Tree). AllReplace (reverse (packed_trees b.left)) l) (reverse-reverse r.children) (all_turned (packed_trees b.left) (reverse r.children) turned)) in
      let own : Tree = reduced g number 0 None (packed_trees forth) in
      let other : Tree = reduced g number 0 None r.children in
      let best : Replaces node.tree made = subst (λ (t : Tree). Replaces node.tree t) (sym r.node_is)
      (replaces_bare own other (laws.keeps own) (laws.keeps other) (replaces_reduced g number r.left r.production (lawful laws g fit number r.left r.production r.at) (packed_trees forth) r.children x y kids)) in
      let after_trees : packed_trees after ≡ packed_trees s.left ++ node.tree ∷ packed_trees b.right = trees_append s.left (node ∷ b.right) in
      record {
        node = node;
        after = after;
        reduction = reduction;
        node_for = serves;
        after_for = subst (λ (l : List Tree). AllCover after l) (sym r.after_is) (stand_append s.left (node ∷ b.right) r.lifted (made ∷ r.below) s.first (serves, b.second));
        trees_after = subst (λ (l : List Tree). AllReplace (packed_trees after) l) (sym r.after_is)
            (subst (λ (l : List Tree). AllReplace l (r.lifted ++ made ∷ r.below)) (sym after_trees)
            (all_append (packed_trees s.left) r.lifted (node.tree ∷ packed_trees b.right) (made ∷ r.below)
            (replace_left (packed_trees s.left) (packed_trees b.left ++ packed_trees b.right) r.lifted (reverse r.children ++ r.below) (same_many s.left r.lifted s.first) whole)
            (best, replace_right (packed_trees b.left) (packed_trees b.right) (reverse r.children) r.below (same_many b.left (reverse r.children) b.first) lower)));
      }

  module _ (text : Bytes) where
    -- ---- what layers stand for goes on as they do

    pushed_covers : (k : PackedStack) (c : Configuration) → Covers k c → (t : Tree) → Covers (packed_with k t) (pushed c t)
    pushed_covers k c s t = record {
      place = ap (λ (p : ℕ). p + span_of t) s.place;
      stack = (record { symbol = refl; extra = refl; pad = refl; size = refl; depth = omega arith }, s.stack);
    }

    module _ (k : PackedStack) (c : Configuration) (s : Packs k c) where
      up : stack_symbols c.stack ≡ stack_symbols (packed_trees k.stack)
      up = sym (stand_symbols k.stack c.stack s.covers.stack)

      pushed_stands : (t : Tree) → Packs (packed_with k t) (pushed c t)
      pushed_stands t = record { covers = pushed_covers k c s.covers t; trees = (replaces_itself t, s.trees) }

      pub deep_stands : AllMade g (packed_trees k.stack) → AllMade g c.stack → ComesTooDeep g text c → PackedIsTooDeep g text k
      deep_stands mk mc deep =
          let w = layers_reduced deep.number k.stack c.stack deep.node deep.after mk mc (laws.reduces g (stack_symbols c.stack) deep.move.symbol.0 deep.number deep.move.stays) s.covers.stack s.trees deep.reduction in
          record {
            number = deep.number;
            move = move_alike g text c (own_config k) s.covers.place up (reduce deep.number) deep.move;
            node = w.node;
            after = w.after;
            reduction = w.reduction;
            deep = omega (arith, deep.deep, w.node_for.depth);
          }

      -- the layers take the step too, or are too deep
      abbrev Follows : Configuration → Type 0
      Follows m = PackedIsTooDeep g text k ⊎ ((n : PackedStack) × PackedStepsOn g text k n × Packs n m)

      pub step_stands : (m : Configuration) → AllMade g (packed_trees k.stack) → AllMade g c.stack → StepsOn g text c m → Follows m
      step_stands _ mk mc (shift_token symbol pad size next act) =
          let t = token_tree symbol pad size in
          inr (packed_with k t, shift_packed symbol pad size (next_alike g text c (own_config k) s.covers.place up (token symbol pad size) next) (act_alike g text c (own_config k) s.covers.place up symbol.0 shift act), pushed_stands t)
      step_stands _ mk mc (pass_extra symbol pad size next is_one none) =
          let t = as_extra (token_tree symbol pad size) in
          inr (packed_with k t, pass_packed symbol pad size (next_alike g text c (own_config k) s.covers.place up (token symbol pad size) next) is_one (none_alike g text c (own_config k) s.covers.place up symbol.0 none), pushed_stands t)
      step_stands _ mk mc (reduce_trees number made left move r shallow) = cases (cases_order most_depth w.node.depth)
        where
          w : PackedReduces number k.stack made left
          w = layers_reduced number k.stack c.stack made left mk mc (laws.reduces g (stack_symbols c.stack) move.symbol.0 number move.stays) s.covers.stack s.trees r

          own_move : CanMove g text (own_config k) (reduce number)
          own_move = move_alike g text c (own_config k) s.covers.place up (reduce number) move

          goes : w.node.depth ≤ most_depth → Follows (record { stack = left; place = c.place })
          goes low = inr (
            record { stack = w.after; place = k.place },
            reduce_packed number w.node w.after own_move w.reduction low,
            record { covers = record { place = s.covers.place; stack = w.after_for }; trees = w.trees_after },
          )

          cases : (most_depth ≡ w.node.depth) ⊎ ((most_depth < w.node.depth) ⊎ (w.node.depth < most_depth)) → Follows (record { stack = left; place = c.place })
          cases (inl e) = goes (omega (arith, e))
          cases (inr (inl more)) = inl (record { number = number; move = own_move; node = w.node; after = w.after; reduction = w.reduction; deep = more })
          cases (inr (inr less)) = goes (omega (arith, less))

    -- ---- each depth is met

    module _ (k : PackedStack) (met : WasMet g text k) where
      own_made : AllMade g (packed_trees k.stack)
      own_made = made_reached laws g fit text (own_config k) met.reached

      -- a move of the layers' own trees is one of all that the layers stand for
      down_move : (c : Configuration) → Covers k c → (move : Move) → CanMove g text (own_config k) move → CanMove g text c move
      down_move c s = move_alike g text (own_config k) c (sym s.place) (stand_symbols k.stack c.stack s.stack)

      pushed_met : (t : Tree) → ((c : Configuration) → Covers k c → StepsOn g text c (pushed c t)) → WasMet g text (packed_with k t)
      pushed_met t step = record {
        reached = reached;
        own = pushed_covers k (own_config k) met.own t;
        deepest = deepest;
      }
        where
          reached : IsReached g text (pushed (own_config k) t)
          reached = run_further g text starting (own_config k) (pushed (own_config k) t) met.reached (step (own_config k) met.own)

          deepest : (n d : ℕ) → slice_get (packed_depths (packed_with k t).stack) n ≡ Some d
              → (c : Configuration) × IsReached g text c × Covers (packed_with k t) c × (slice_get (own_depths c.stack) n ≡ Some d)
          deepest zero d e = (pushed (own_config k) t, reached, pushed_covers k (own_config k) met.own t, e)
          deepest (suc n) d e =
              let w = met.deepest n d e in
              (pushed w.0 t, run_further g text starting w.0 (pushed w.0 t) w.1 (step w.0 w.2), pushed_covers k w.0 w.2 t, w.3)

      module _ (number : ℕ) (node : PackedTree) (after : List PackedTree) (move : CanMove g text (own_config k) (reduce number)) (r : IsPackedReduction g number k.stack node after) where
        ending : EndsWithProduction g (stack_symbols (packed_trees k.stack)) number
        ending = laws.reduces g (stack_symbols (packed_trees k.stack)) move.symbol.0 number move.stays

        abbrev form : Form
        form = form_of g r.left number

        -- a reading that has this depth behind the reduction
        record Behind (n d : ℕ) : Type 0 where
          from : Configuration
          reached : IsReached g text from
          stands : Covers k from
          reduces : Reduces number r.lifted r.below node (packed_depths r.children) form from.stack
          depth : slice_get (own_depths reduces.lifted ++ tree_depth reduces.made ∷ own_depths reduces.below) n ≡ Some d

        reduces_from : (c : Configuration) → IsReached g text c → Covers k c → Reduces number r.lifted r.below node (packed_depths r.children) form c.stack
        reduces_from c reached s = reduces_for number k.stack node after r own_made ending c.stack (made_reached laws g fit text c reached) s.stack

        depths_before : packed_depths k.stack ≡ packed_depths r.lifted ++ (reverse (packed_depths r.children) ++ packed_depths r.below)
        depths_before =
            ap (λ (x : List PackedTree). packed_depths x) r.stack_is ∙ depths_append r.lifted (reverse r.children ++ r.below)
            ∙ ap (λ (x : List ℕ). packed_depths r.lifted ++ x) (depths_append (reverse r.children) r.below ∙ ap (λ (x : List ℕ). x ++ packed_depths r.below) (depths_turned r.children))

        no_items : (xs : List ℕ) → 0 ≡ length xs → xs ≡ []
        no_items [] e = refl
        no_items (x ∷ xs) e = absurd (omega (arith, e))

        behind_by : (n d : ℕ) → ComesFrom form (packed_depths r.lifted) (packed_depths r.children) (packed_depths r.below) n d ⊎ AtNode form (packed_depths r.lifted) (packed_depths r.children) n d → Behind n d
        behind_by n d (inl w) =
            let c = met.deepest w.place w.depth (ap (λ (l : List ℕ). slice_get l w.place) depths_before ∙ w.there) in
            let x = reduces_from c.0 c.1 c.2 in
            let there = sym (ap (λ (l : List ℕ). slice_get l w.place) x.depths_are) ∙ c.3 in
            record {
              from = c.0;
              reached = c.1;
              stands = c.2;
              reduces = x;
              depth = ap (λ (m : ℕ). slice_get (own_depths x.lifted ++ m ∷ own_depths x.below) n) x.depth_is
                  ∙ w.tells (own_depths x.lifted) x.children (own_depths x.below) (stand_length r.lifted x.lifted x.first) x.deeper x.many there;
            }
        behind_by n d (inr w) =
            let x = reduces_from (own_config k) met.reached met.own in
            let none : x.children ≡ [] = no_items x.children (ap (λ (l : List ℕ). length l) (sym w.nothing) ∙ x.many) in
            record {
              from = own_config k;
              reached = met.reached;
              stands = met.own;
              reduces = x;
              depth = ap (λ (m : ℕ). slice_get (own_depths x.lifted ++ m ∷ own_depths x.below) n) (x.depth_is ∙ ap (depth_over form) none)
                  ∙ w.at (own_depths x.lifted) (own_depths x.below) (stand_length r.lifted x.lifted x.first);
            }

        behind_all : (n d : ℕ) → slice_get (packed_depths r.lifted ++ node.depth ∷ packed_depths r.below) n ≡ Some d → Behind n d
        behind_all n d e =
            behind_by n d (comes_any form (packed_depths r.lifted) (packed_depths r.children) (packed_depths r.below) n d
            (ap (λ (m : ℕ). slice_get (packed_depths r.lifted ++ m ∷ packed_depths r.below) n) (sym r.depth_is) ∙ e))

        -- the own tree of the node is no deeper
        own_bounds : AreBounds (r.lifted ++ (reverse r.children ++ r.below))
        own_bounds = subst (λ (x : List PackedTree). AreBounds x) r.stack_is (bounds_of k.stack met.own.stack)

        inner_bounds : AreBounds (reverse r.children ++ r.below)
        inner_bounds = bounds_right r.lifted (reverse r.children ++ r.below) own_bounds

        own_low : tree_depth node.tree ≤ node.depth
        unfolding own_reduction
        own_low =
            let x = reduction_makes laws g fit number (packed_trees k.stack) node.tree (packed_trees after) ending own_made (own_reduction g number k.stack node after r) in
            let a = own_stand r.children (bounds_back r.children (bounds_left (reverse r.children) r.below inner_bounds)) in
            let w = node_stands number r.left r.production r.at r.children (packed_trees r.children) x x a in
            let low = w.1.depth in
            let same : tree_depth node.tree ≡ tree_depth (bare (reduced g number 0 None (packed_trees r.children))) = ap tree_depth r.tree_is in
            omega (arith, low, same, r.depth_is)

        after_bounds : AreBounds after
        after_bounds = subst (λ (x : List PackedTree). AreBounds x) (sym r.after_is)
            (bounds_append r.lifted (node ∷ r.below) (bounds_left r.lifted (reverse r.children ++ r.below) own_bounds) (own_low, bounds_right (reverse r.children) r.below inner_bounds))

        abbrev next : PackedStack
        next = record { stack = after; place = k.place }

        depths_behind : packed_depths after ≡ packed_depths r.lifted ++ node.depth ∷ packed_depths r.below
        depths_behind = ap (λ (x : List PackedTree). packed_depths x) r.after_is ∙ depths_append r.lifted (node ∷ r.below)

        reduced_met : node.depth ≤ most_depth → WasMet g text next
        reduced_met low = record {
          reached = run_further g text starting (own_config k) (own_config next) met.reached
              (reduce_trees number node.tree (packed_trees after) move (own_reduction g number k.stack node after r) (omega (arith, low, own_low)));
          own = record { place = refl; stack = own_stand after after_bounds };
          deepest = deepest;
        }
          where
            deepest : (n d : ℕ) → slice_get (packed_depths after) n ≡ Some d → (c : Configuration) × IsReached g text c × Covers next c × (slice_get (own_depths c.stack) n ≡ Some d)
            deepest n d e =
                let b = behind_all n d (ap (λ (l : List ℕ). slice_get l n) (sym depths_behind) ∙ e) in
                let x = b.reduces in
                let left : List Tree = x.lifted ++ x.made ∷ x.below in
                let m : Configuration = record { stack = left; place = b.from.place } in (
                  m,
                  run_further g text starting b.from m b.reached (reduce_trees number x.made left (down_move b.from b.stands (reduce number) move) x.reduction (omega (arith, low, x.node_for.depth))),
                  record {
                    place = b.stands.place;
                    stack = subst (λ (l : List PackedTree). AllCover l left) (sym r.after_is) (stand_append r.lifted (node ∷ r.below) x.lifted (x.made ∷ x.below) x.first (x.node_for, x.last));
                  },
                  ap (λ (l : List ℕ). slice_get l n) (own_append x.lifted (x.made ∷ x.below)) ∙ b.depth,
                )

        some_same : (a b : ℕ) → ◌≡◌ {A = Option ℕ} (Some a) (Some b) → a ≡ b
        some_same a b e = cc

        reduced_deep : most_depth < node.depth → SomeIsTooDeep g text
        reduced_deep deep =
            let m = behind (packed_depths r.lifted) 0 in
            let b = behind_all m.0 node.depth (m.1 (packed_depths r.lifted) (node.depth ∷ packed_depths r.below) refl) in
            let x = b.reduces in
            let same : tree_depth x.made ≡ node.depth = some_same (tree_depth x.made) node.depth
            (sym (m.1 (own_depths x.lifted) (tree_depth x.made ∷ own_depths x.below) (stand_length r.lifted x.lifted x.first)) ∙ b.depth) in (
              b.from,
              b.reached,
              record {
                number = number;
                move = down_move b.from b.stands (reduce number) move;
                node = x.made;
                after = x.lifted ++ x.made ∷ x.below;
                reduction = x.reduction;
                deep = omega (arith, deep, same);
              },
            )

    -- ---- the laws

    pub step_met : (k n : PackedStack) → WasMet g text k → PackedStepsOn g text k n → WasMet g text n
    step_met k _ met (shift_packed symbol pad size next act) =
        pushed_met k met (token_tree symbol pad size) (λ (c : Configuration) (s : Covers k c).
        shift_token symbol pad size (next_alike g text (own_config k) c (sym s.place) (stand_symbols k.stack c.stack s.stack) (token symbol pad size) next)
        (act_alike g text (own_config k) c (sym s.place) (stand_symbols k.stack c.stack s.stack) symbol.0 shift act))
    step_met k _ met (pass_packed symbol pad size next is_one none) =
        pushed_met k met (as_extra (token_tree symbol pad size)) (λ (c : Configuration) (s : Covers k c).
        pass_extra symbol pad size (next_alike g text (own_config k) c (sym s.place) (stand_symbols k.stack c.stack s.stack) (token symbol pad size) next) is_one
        (none_alike g text (own_config k) c (sym s.place) (stand_symbols k.stack c.stack s.stack) symbol.0 none))
    step_met k _ met (reduce_packed number node after move r low) = reduced_met k met number node after move r low

    pub deep_met : (k : PackedStack) → WasMet g text k → PackedIsTooDeep g text k → SomeIsTooDeep g text
    deep_met k met d = reduced_deep k met d.number d.node d.after d.move d.reduction d.deep

    pub own_met : (c : Configuration) → IsReached g text c → WasMet g text (stack_alone c) × Packs (stack_alone c) c
    own_met c reached =
        let same : packed_trees (map packed_alone c.stack) ≡ c.stack = own_trees c.stack in
        let covers : Covers (stack_alone c) c = record { place = refl; stack = own_layers_stand c.stack } in (
          record {
            reached = subst (λ (l : List Tree). IsReached g text (record { stack = l; place = c.place })) (sym same) reached;
            own = record { place = refl; stack = subst (λ (l : List Tree). AllCover (map packed_alone c.stack) l) (sym same) (own_layers_stand c.stack) };
            deepest = λ (n d : ℕ) (e : slice_get (packed_depths (map packed_alone c.stack)) n ≡ Some d).
                (c, reached, covers, sym (ap (λ (l : List ℕ). slice_get l n) (own_layer_depths c.stack)) ∙ e);
          },
          record { covers = covers; trees = subst (λ (l : List Tree). AllReplace l c.stack) (sym same) (all_itself c.stack) },
        )

    pub deep_served : (k : PackedStack) (c : Configuration) → WasMet g text k → IsReached g text c → Packs k c → ComesTooDeep g text c → PackedIsTooDeep g text k
    deep_served k c met reached s deep = deep_stands k c s (made_reached laws g fit text (own_config k) met.reached) (made_reached laws g fit text c reached) deep

    pub stops_served : (k : PackedStack) (c : Configuration) (place : ℕ) → Packs k c → StopsAt g text c place → StopsAt g text (own_config k) place
    stops_served k c place s stops = stops_alike g text c (own_config k) s.covers.place (sym (stand_symbols k.stack c.stack s.covers.stack)) place stops

    pub accept_served : (k : PackedStack) (c : Configuration) (u : Tree) → WasMet g text k → IsReached g text c → Packs k c → AcceptsTree g text c u → (t : Tree) × AcceptsTree g text (own_config k) t × (Better u t → ⊥)
    accept_served k c u met reached s x = accept_replaced laws g fit text c (own_config k) u reached met.reached s.covers.place s.trees x

    pub leads_on : (k : PackedStack) (d : Configuration) → WasMet g text k → GoesThrough g text k d
        → Packs k d ⊎ (PackedIsTooDeep g text k ⊎ ((n : PackedStack) × PackedStepsOn g text k n × GoesThrough g text n d))
    leads_on k d met w = by w.from w.reached w.stands w.run
      where
        by : (c : Configuration) → IsReached g text c → Packs k c → Run g text c d → Packs k d ⊎ (PackedIsTooDeep g text k ⊎ ((n : PackedStack) × PackedStepsOn g text k n × GoesThrough g text n d))
        by _ reached s (run_here _) = inl s
        by c reached s (run_on _ m _ step rest) = further (step_stands k c s m (made_reached laws g fit text (own_config k) met.reached) (made_reached laws g fit text c reached) step)
          where
            further : PackedIsTooDeep g text k ⊎ ((n : PackedStack) × PackedStepsOn g text k n × Packs n m) → Packs k d ⊎ (PackedIsTooDeep g text k ⊎ ((n : PackedStack) × PackedStepsOn g text k n × GoesThrough g text n d))
            further (inl deep) = inr (inl deep)
            further (inr (n, on, stands)) = inr (inr (n, on, record { from = m; reached = run_further g text starting c m reached step; stands = stands; run = rest }))

-- ---- two stacks of layers as one

joined_first : (ks js : List PackedTree) (ts : List Tree) → AllReplace (packed_trees ks) (packed_trees js) → AllCover ks ts → AllCover (joined ks js) ts
joined_first [] js [] a s = tt
joined_first [] js (t ∷ ts) a s = absurd s
joined_first (k ∷ ks) [] ts a s = absurd a
joined_first (k ∷ ks) (j ∷ js) [] a s = absurd s
joined_first (k ∷ ks) (j ∷ js) (t ∷ ts) a s = (
  record { symbol = s.0.symbol; extra = s.0.extra; pad = s.0.pad; size = s.0.size; depth = let h = s.0.depth in omega (arith, h) },
  joined_first ks js ts a.1 s.1,
)

joined_second : (ks js : List PackedTree) (ts : List Tree) → AllReplace (packed_trees ks) (packed_trees js) → AllCover js ts → AllCover (joined ks js) ts
joined_second [] [] ts a s = s
joined_second [] (j ∷ js) ts a s = absurd a
joined_second (k ∷ ks) [] ts a s = absurd a
joined_second (k ∷ ks) (j ∷ js) [] a s = absurd s
joined_second (k ∷ ks) (j ∷ js) (t ∷ ts) a s = (
  record {
    symbol = a.0.symbol ∙ s.0.symbol;
    extra = a.0.extra ∙ s.0.extra;
    pad = a.0.pad ∙ s.0.pad;
    size = a.0.size ∙ s.0.size;
    depth = let h = s.0.depth in omega (arith, h);
  },
  joined_second ks js ts a.1 s.1,
)

replace_chain : (ts us vs : List Tree) → AllReplace ts us → AllReplace us vs → AllReplace ts vs
replace_chain [] [] [] a b = tt
replace_chain [] [] (v ∷ vs) a b = b
replace_chain [] (u ∷ us) vs a b = absurd a
replace_chain (t ∷ ts) [] vs a b = absurd a
replace_chain (t ∷ ts) (u ∷ us) [] a b = b
replace_chain (t ∷ ts) (u ∷ us) (v ∷ vs) a b = (replaces_chain t u v a.0 b.0, replace_chain ts us vs a.1 b.1)

joined_trees : (ks js : List PackedTree) → AllReplace (packed_trees ks) (packed_trees js) → packed_trees (joined ks js) ≡ packed_trees ks
joined_trees [] js a = refl
joined_trees (k ∷ ks) [] a = absurd a
joined_trees (k ∷ ks) (j ∷ js) a = ap (λ (l : List Tree). k.tree ∷ l) (joined_trees ks js a.1)

greater_is : (a b d : ℕ) → ◌≡◌ {A = Option ℕ} (Some (max a b)) (Some d) → ◌≡◌ {A = Option ℕ} (Some a) (Some d) ⊎ ◌≡◌ {A = Option ℕ} (Some b) (Some d)
greater_is a b d e = by (cases_order a b)
  where
    by : (a ≡ b) ⊎ ((a < b) ⊎ (b < a)) → ◌≡◌ {A = Option ℕ} (Some a) (Some d) ⊎ ◌≡◌ {A = Option ℕ} (Some b) (Some d)
    by (inl same) = inl (let h : a ≡ max a b = omega (arith, same) in ap (λ (n : ℕ). Some n) h ∙ e)
    by (inr (inl less)) = inr (let h : b ≡ max a b = omega (arith, less) in ap (λ (n : ℕ). Some n) h ∙ e)
    by (inr (inr more)) = inl (let h : a ≡ max a b = omega (arith, more) in ap (λ (n : ℕ). Some n) h ∙ e)

joined_depth : (ks js : List PackedTree) (n d : ℕ) → slice_get (packed_depths (joined ks js)) n ≡ Some d → (slice_get (packed_depths ks) n ≡ Some d) ⊎ (slice_get (packed_depths js) n ≡ Some d)
joined_depth [] js n d e = inl e
joined_depth (k ∷ ks) [] n d e = absurd (cc)
joined_depth (k ∷ ks) (j ∷ js) zero d e = greater_is k.depth j.depth d e
joined_depth (k ∷ ks) (j ∷ js) (suc n) d e = joined_depth ks js n d e

join_covers : (k j : PackedStack) (c : Configuration) → MayJoin k j → Covers k c ⊎ Covers j c → Covers (joined_stacks k j) c
join_covers k j c m (inl s) = record { place = s.place; stack = joined_first k.stack j.stack c.stack m.trees s.stack }
join_covers k j c m (inr s) = record { place = m.place ∙ s.place; stack = joined_second k.stack j.stack c.stack m.trees s.stack }

pub join_stands : (k j : PackedStack) (c : Configuration) → MayJoin k j → Packs k c ⊎ Packs j c → Packs (joined_stacks k j) c
join_stands k j c m (inl s) = record {
  covers = join_covers k j c m (inl s.covers);
  trees = subst (λ (l : List Tree). AllReplace l c.stack) (sym (joined_trees k.stack j.stack m.trees)) s.trees;
}
join_stands k j c m (inr s) = record {
  covers = join_covers k j c m (inr s.covers);
  trees = subst (λ (l : List Tree). AllReplace l c.stack) (sym (joined_trees k.stack j.stack m.trees))
      (replace_chain (packed_trees k.stack) (packed_trees j.stack) c.stack m.trees s.trees);
}

pub join_leads : (g : FlatGrammar) (text : Bytes) (k j : PackedStack) (d : Configuration) → MayJoin k j → GoesThrough g text k d ⊎ GoesThrough g text j d → GoesThrough g text (joined_stacks k j) d
join_leads g text k j d m (inl w) = record { from = w.from; reached = w.reached; stands = join_stands k j w.from m (inl w.stands); run = w.run }
join_leads g text k j d m (inr w) = record { from = w.from; reached = w.reached; stands = join_stands k j w.from m (inr w.stands); run = w.run }

pub join_met : (g : FlatGrammar) (text : Bytes) (k j : PackedStack) → WasMet g text k → WasMet g text j → MayJoin k j → WasMet g text (joined_stacks k j)
join_met g text k j mk mj m =
    let same : packed_trees (joined k.stack j.stack) ≡ packed_trees k.stack = joined_trees k.stack j.stack m.trees in
    let own : AllCover (joined k.stack j.stack) (packed_trees k.stack) = joined_first k.stack j.stack (packed_trees k.stack) m.trees mk.own.stack in
    record {
      reached = subst (λ (l : List Tree). IsReached g text (record { stack = l; place = k.place })) (sym same) mk.reached;
      own = record { place = refl; stack = subst (λ (l : List Tree). AllCover (joined k.stack j.stack) l) (sym same) own };
      deepest = deepest;
    }
  where
    by : (n d : ℕ) → (slice_get (packed_depths k.stack) n ≡ Some d) ⊎ (slice_get (packed_depths j.stack) n ≡ Some d)
        → (c : Configuration) × IsReached g text c × Covers (joined_stacks k j) c × (slice_get (own_depths c.stack) n ≡ Some d)
    by n d (inl e) = let w = mk.deepest n d e in (w.0, w.1, join_covers k j w.0 m (inl w.2), w.3)
    by n d (inr e) = let w = mj.deepest n d e in (w.0, w.1, join_covers k j w.0 m (inr w.2), w.3)

    deepest : (n d : ℕ) → slice_get (packed_depths (joined k.stack j.stack)) n ≡ Some d → (c : Configuration) × IsReached g text c × Covers (joined_stacks k j) c × (slice_get (own_depths c.stack) n ≡ Some d)
    deepest n d e = by n d (joined_depth k.stack j.stack n d e)
