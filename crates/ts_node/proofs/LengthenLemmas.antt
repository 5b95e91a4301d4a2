-- A repetition with elements of another behind its own.
use Rattle.std.proofs.Common.{◌≡◌, ◌∙◌, ℕ, ◌+◌, ◌-◌, ◌*◌, ◌<◌, ◌≤◌, ◌^◌, max, sym, ap, subst, arith, List, [], ◌∷◌, ◌++◌, length, take, drop, Option, None, true, append_assoc, length-append, length-drop}
use Rattle.std.specs.Prelude.{All}
use Rattle.std.specs.Int.RustNames.{unsigned_abs}
use Rattle.std.proofs.lemmas.List.{take-append-drop}
use Rattle.std.proofs.lemmas.List.Elements.{All-head, All-tail, All-append, All-nil}
use Rattle.std.proofs.lemmas.Int.{ints}
use lib.IntN.{ℤ, ◌+ℤ◌}
use Rattle.spec_trees.specs.declared.tree.Tree.{Tree}
use Rattle.spec_trees.specs.declared.tree.Element.{Element}
use Rattle.spec_trees.specs.declared.tree.Stretch.{Stretch}
use Rattle.spec_trees.specs.declared.tree.Tree.TheOpen.{Tree-F}
use Rattle.spec_trees.specs.declared.tree.Tree.TheViews.{out-roll-Tree}
use Rattle.spec_trees.specs.declared.tree.Tree.TheFolds.{fold_out-Tree}
use Rattle.spec_trees.specs.Trees.{symbol_of, elements_of, children_of, is_settled, total_of, all_totals, all_values, span_of, node_extent, all_spans, node_count, nodes_step, all_nodes, tree_depth, depth_step, greatest_depth}
use Rattle.spec_trees.specs.Made.{IsNode, IsSettledWell, AreElementsWell, EndBy, element, node_over, next_element, lengthened, elements_between, children_count, reach_of}
use Rattle.ts_node.specs.Held.{joined_stretch, stretch}
use Rattle.ts_node.specs.Standing.{CanBeLengthened, IsPartOf}
use Rattle.ts_node.specs.Falls.{all_nodes-append}
use Rattle.ts_node.proofs.TotalLemmas.{abs_sum}
use Rattle.ts_node.proofs.RunLemmas.{greatest_depth-append}
use Rattle.ts_node.proofs.ElementLemmas.{all_spans-append, all_spans-split, children_count_append, all_totals-append, all_values-append, reach-append, well-append, well-first, well-behind, past_reach, counted_by, some_counted, total_by, some_total}
use Rattle.ts_node.proofs.ReducedLemmas.{over_layer, fit_is_node, end_by_wider, end_by_both, end_by_moved}

-- ---- settled elements

-- their children are settled
inner_of : (es : List Element) (ks : List Tree) → children_count es ≡ length ks → All (λ e. e.settled ≡ true) es → AreElementsWell es ks → All (λ child. is_settled child ≡ true) ks
inner_of [] [] own s w = All-nil (λ (t : Tree). is_settled t ≡ true)
inner_of [] (k ∷ ks) own s w = absurd (omega (arith, own))
inner_of (e ∷ es) ks own s w =
    let n = e.children in
    subst (λ (x : List Tree). All (λ child. is_settled child ≡ true) x) (take-append-drop n ks)
    (All-append (λ child. is_settled child ≡ true) (take n ks) (drop n ks)
    (w.0 (All-head (λ (d : Element). d.settled ≡ true) e es s)).inner
    (inner_of es (drop n ks) (omega (arith, own, length-drop n ks)) (All-tail (λ (d : Element). d.settled ≡ true) e es s) w.1))

-- no child's examined range ends past where the elements reach
covers_of : (end place : ℕ) (es : List Element) (ks : List Tree) → children_count es ≡ length ks → All (λ e. e.settled ≡ true) es → AreElementsWell es ks → place + reach_of es ks ≤ end → EndBy end place ks
covers_of end place [] [] own s w h = tt
covers_of end place [] (k ∷ ks) own s w h = absurd (omega (arith, own))
covers_of end place (e ∷ es) ks own s w h =
    let n = e.children in
    let first : EndBy (place + e.extent) (place + 0) (take n ks) = end_by_moved place e.extent 0 (take n ks) (w.0 (All-head (λ (d : Element). d.settled ≡ true) e es s)).covers in
    subst (λ (x : List Tree). EndBy end place x) (take-append-drop n ks)
    (end_by_both end place (take n ks) (drop n ks)
    (end_by_wider (place + e.extent) end (place + 0) place (take n ks) (omega (arith, h)) (omega arith) first)
    (covers_of end (place + all_spans (take n ks)) es (drop n ks) (omega (arith, own, length-drop n ks)) (All-tail (λ (d : Element). d.settled ≡ true) e es s) w.1 (omega (arith, h))))

-- ---- the longer repetition is a node

pub lengthened_node : (before : Tree) (more : Stretch) (extent : ℕ) (state : Option ℕ) → CanBeLengthened before more extent → IsNode (lengthened before more extent state)
lengthened_node before more extent state r =
    let es = elements_of before in
    let ks = children_of before in
    let fs = more.elements in
    let us = more.children in
    let total = total_of before +ℤ (all_values fs +ℤ all_totals us) in
    let w : IsSettledWell before = r.node.settled r.settled in
    let n : node_count before ≡ 1 + (length es + all_nodes ks) = fold_out-Tree ℕ nodes_step before in
    let d : tree_depth before ≡ 1 + greatest_depth ks = fold_out-Tree ℕ depth_step before in
    let own : children_count es ≡ length ks = some_counted es ks r.repetition r.node.counted in
    let within : all_spans ks ≤ span_of before = r.node.sized.within in
    let m : unsigned_abs (total_of before) ≤ 2 ^ 31 * node_count before = r.node.modest in
    let beyond : all_spans us < reach_of fs us = past_reach fs us r.section.some r.section.own r.all_settled r.well in
    fit_is_node (symbol_of before) None total extent state (es ++ fs) (ks ++ us) (record {
      few = omega (arith, r.few, n, all_nodes-append ks us, length-append es fs);
      short = omega (arith, r.short, within, all_spans-append ks us);
      shallow = omega (arith, d, r.node.sized.shallow, r.shallow, greatest_depth-append ks us);
      counted = counted_by (es ++ fs) (ks ++ us) (omega (arith, own, r.section.own, children_count_append es fs, length-append ks us));
      modest = omega (
        arith,
        m,
        r.section.small,
        r.section.modest,
        n,
        abs_sum (total_of before) (all_values fs +ℤ all_totals us),
        abs_sum (all_values fs) (all_totals us),
        all_nodes-append ks us,
        length-append es fs,
      );
      past = omega (arith, within, beyond, r.reach, all_spans-append ks us);
      inner = All-append (λ child. is_settled child ≡ true) ks us w.inner (inner_of fs us r.section.own r.all_settled r.well);
      covers = end_by_both extent 0 ks us
          (end_by_wider (node_extent before) extent 0 0 ks r.past (omega arith) w.covers)
          (covers_of extent (0 + all_spans ks) fs us r.section.own r.all_settled r.well (omega (arith, within, r.reach)));
      elements = record {
        totalled = total_by total (es ++ fs) (ks ++ us)
            (omega (arith, ints, some_total (total_of before) es ks r.repetition r.node.totalled, all_values-append es fs, all_totals-append ks us));
        settled = All-append (λ (e : Element). e.settled ≡ true) es fs w.elements r.all_settled;
        reach = omega (arith, reach-append es fs ks us own, w.reach, r.past, r.reach, within);
        well = well-append es fs ks us own r.node.elements r.well;
      };
    })

-- ---- elements that were cut out

spans_part : (a b : ℕ) (ks : List Tree) → all_spans (drop a (take b ks)) ≤ all_spans ks
spans_part a b ks = omega (arith, all_spans-split a (take b ks), all_spans-split b ks)

nodes_split : (n : ℕ) (ks : List Tree) → all_nodes ks ≡ all_nodes (take n ks) + all_nodes (drop n ks)
nodes_split n ks = ap all_nodes (sym (take-append-drop n ks)) ∙ all_nodes-append (take n ks) (drop n ks)

nodes_part : (a b : ℕ) (ks : List Tree) → all_nodes (drop a (take b ks)) ≤ all_nodes ks
nodes_part a b ks = omega (arith, nodes_split a (take b ks), nodes_split b ks)

depth_split : (n : ℕ) (ks : List Tree) → greatest_depth ks ≡ max (greatest_depth (take n ks)) (greatest_depth (drop n ks))
depth_split n ks = ap greatest_depth (sym (take-append-drop n ks)) ∙ greatest_depth-append (take n ks) (drop n ks)

depth_part : (a b : ℕ) (ks : List Tree) → greatest_depth (drop a (take b ks)) ≤ greatest_depth ks
depth_part a b ks = omega (arith, depth_split a (take b ks), depth_split b ks)

many_split : {X : Type 0} (n : ℕ) (xs : List X) → length xs ≡ length (take n xs) + length (drop n xs)
many_split n xs = ap length (sym (take-append-drop n xs)) ∙ length-append (take n xs) (drop n xs)

many_part : (a b : ℕ) (es : List Element) → length (drop a (take b es)) ≤ length es
many_part a b es = omega (arith, many_split a (take b es), many_split b es)

pub part_of : (t : Tree) (from to : ℕ) → IsNode t → IsPartOf t (elements_between from to t)
part_of t from to node =
    let es = elements_of t in
    let ks = children_of t in
    let b = children_count (take to es) in
    let a = children_count (take from (take to es)) in
    let n : node_count t ≡ 1 + (length es + all_nodes ks) = fold_out-Tree ℕ nodes_step t in
    let d : tree_depth t ≡ 1 + greatest_depth ks = fold_out-Tree ℕ depth_step t in
    record {
      well = well-behind from (take to es) (take b ks) (well-first to es ks node.elements);
      few = omega (arith, n, many_part from to es, nodes_part a b ks);
      short = omega (arith, spans_part a b ks, node.sized.within);
      shallow = omega (arith, d, depth_part a b ks);
    }

-- ---- one element after another

pub by_one : (before : Tree) (alternative : ℕ) (value : ℤ) (extent : ℕ) (state : Option ℕ) (ks : List Tree)
    → lengthened before (stretch (element alternative (length ks) value (extent - span_of before) ∷ []) ks) extent state ≡ next_element (symbol_of before) alternative value extent state (before ∷ ks)
by_one before alternative value extent state ks =
    let es = elements_of before ++ element alternative (length ks) value (extent - span_of before) ∷ [] in
    let d : total_of before +ℤ (all_values (element alternative (length ks) value (extent - span_of before) ∷ []) +ℤ all_totals ks) ≡ value +ℤ (total_of before +ℤ all_totals ks) = omega (arith, ints) in
    ap (λ (v : ℤ). node_over (symbol_of before) None v extent state es (children_of before ++ ks)) d

pub in_turn : (before : Tree) (first more : Stretch) (extent last : ℕ) (state below : Option ℕ) → lengthened (lengthened before first extent state) more last below ≡ lengthened before (joined_stretch first more) last below
in_turn before first more extent last state below =
    let t = lengthened before first extent state in
    let d = total_of before +ℤ (all_values first.elements +ℤ all_totals first.children) in
    let o = out-roll-Tree (over_layer (symbol_of before) None d extent state (elements_of before ++ first.elements) (children_of before ++ first.children)) in
    let symbol : symbol_of t ≡ symbol_of before = ap (λ (x : Tree-F Tree). x.symbol.0) o in
    let total : total_of t ≡ d = ap (λ (x : Tree-F Tree). x.dynamic) o in
    let es : elements_of t ≡ elements_of before ++ first.elements = ap (λ (x : Tree-F Tree). x.elements) o in
    let ks : children_of t ≡ children_of before ++ first.children = ap (λ (x : Tree-F Tree). x.children) o in
    let sum : total_of t +ℤ (all_values more.elements +ℤ all_totals more.children) ≡ total_of before +ℤ (all_values (first.elements ++ more.elements) +ℤ all_totals (first.children ++ more.children)) =
    omega (arith, ints, total, all_values-append first.elements more.elements, all_totals-append first.children more.children) in
    same (symbol_of t) (symbol_of before) _ _ (elements_of t ++ more.elements) (elements_of before ++ (first.elements ++ more.elements)) (children_of t ++ more.children) (children_of before ++ (first.children ++ more.children))
    symbol sum
    (ap (λ (x : List Element). x ++ more.elements) es ∙ append_assoc (elements_of before) first.elements more.elements)
    (ap (λ (x : List Tree). x ++ more.children) ks ∙ append_assoc (children_of before) first.children more.children)
  where
    same : (s u : ℕ) (v w : ℤ) (xs ys : List Element) (ks ms : List Tree) → s ≡ u → v ≡ w → xs ≡ ys → ks ≡ ms → node_over s None v last below xs ks ≡ node_over u None w last below ys ms
    same s u v w xs ys ks ms p q e f =
        ap (λ (x : ℕ). node_over x None v last below xs ks) p
        ∙ ap (λ (x : ℤ). node_over u None x last below xs ks) q
        ∙ ap (λ (x : List Element). node_over u None w last below x ks) e
        ∙ ap (λ (x : List Tree). node_over u None w last below ys x) f
