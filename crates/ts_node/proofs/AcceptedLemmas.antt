-- What acceptance makes of a root that can be accepted is a node.
use Rattle.std.proofs.Common.{◌≡◌, ℕ, ◌+◌, ◌≤◌, arith, List, [], ◌∷◌, ◌++◌, length, true}
use Rattle.std.specs.Prelude.{None}
use Rattle.std.proofs.lemmas.List.Elements.{All-append}
use Rattle.spec_trees.specs.declared.tree.Tree.{Tree}
use Rattle.spec_trees.specs.declared.tree.Tree.TheFolds.{fold_out-Tree}
use Rattle.spec_trees.specs.Trees.{symbol_of, production_of, elements_of, children_of, is_settled, total_of, span_of, node_extent, all_spans, node_count, nodes_step, all_nodes, tree_depth, depth_step, greatest_depth}
use Rattle.spec_trees.specs.Made.{IsNode, IsSettledWell, accepted, EndBy}
use Rattle.ts_node.specs.Standing.{IsAcceptable}
use Rattle.ts_node.specs.Falls.{all_nodes-append}
use Rattle.ts_node.proofs.RunLemmas.{greatest_depth-append}
use Rattle.ts_node.proofs.ElementLemmas.{all_spans-append}
use Rattle.ts_node.proofs.ReducedLemmas.{IsFit, none_has, fit_is_node, end_by_wider, end_by_both, end_by_moved}

end_by_left : (end place : ℕ) (xs ys : List Tree) → EndBy end place (xs ++ ys) → EndBy end place xs
end_by_left end place [] ys e = tt
end_by_left end place (x ∷ xs) ys e = (e.0, end_by_left end (place + span_of x) xs ys e.1)

end_by_right : (end place : ℕ) (xs ys : List Tree) → EndBy end place (xs ++ ys) → EndBy end (place + all_spans xs) ys
end_by_right end place [] ys e = end_by_wider end end place (place + 0) ys (omega arith) (omega arith) e
end_by_right end place (x ∷ xs) ys e =
    end_by_wider end end (place + span_of x + all_spans xs) (place + (span_of x + all_spans xs)) ys (omega arith) (omega arith) (end_by_right end (place + span_of x) xs ys e.1)

around_covers : (root : Tree) (before after : List Tree) (extent : ℕ) → IsAcceptable root before after extent → EndBy extent 0 ((before ++ children_of root) ++ after)
around_covers root before after extent a =
    let ks = children_of root in
    let w : IsSettledWell root = a.node.settled a.whole in
    let within : all_spans ks ≤ span_of root = a.node.sized.within in
    let front : EndBy extent 0 before = end_by_left extent 0 before (root ∷ after) a.covers in
    let back : EndBy extent (0 + all_spans before) (root ∷ after) = end_by_right extent 0 before (root ∷ after) a.covers in
    let reach : all_spans before + node_extent root ≤ extent = omega (arith, back.0) in
    let own : EndBy (all_spans before + node_extent root) (all_spans before + 0) ks = end_by_moved (all_spans before) (node_extent root) 0 ks w.covers in
    let middle : EndBy extent (0 + all_spans before) ks =
    end_by_wider (all_spans before + node_extent root) extent (all_spans before + 0) (0 + all_spans before) ks reach (omega arith) own in
    end_by_both extent 0 (before ++ ks) after (end_by_both extent 0 before ks front middle)
    (end_by_wider extent extent (0 + all_spans before + span_of root) (0 + all_spans (before ++ ks)) after (omega arith) (omega (arith, within, all_spans-append before ks)) back.1)

accepted_fits : (root : Tree) (before after : List Tree) (extent : ℕ) → IsAcceptable root before after extent → IsFit (total_of root) extent [] ((before ++ children_of root) ++ after)
accepted_fits root before after extent a =
    let ks = children_of root in
    let n : node_count root ≡ 1 + (length (elements_of root) + all_nodes ks) = fold_out-Tree ℕ nodes_step root in
    let d : tree_depth root ≡ 1 + greatest_depth ks = fold_out-Tree ℕ depth_step root in
    let within : all_spans ks ≤ span_of root = a.node.sized.within in
    let nodes : all_nodes ((before ++ ks) ++ after) ≡ all_nodes before + all_nodes ks + all_nodes after = omega (arith, all_nodes-append (before ++ ks) after, all_nodes-append before ks) in
    let spans : all_spans ((before ++ ks) ++ after) ≡ all_spans before + all_spans ks + all_spans after = omega (arith, all_spans-append (before ++ ks) after, all_spans-append before ks) in
    record {
      few = omega (arith, n, nodes, a.few, a.plain);
      short = omega (arith, spans, within, a.short);
      shallow = omega (arith, d, a.node.sized.shallow, a.before_shallow, a.after_shallow, greatest_depth-append (before ++ ks) after, greatest_depth-append before ks);
      counted = tt;
      elements = none_has (total_of root) extent ((before ++ ks) ++ after);
      modest = omega (arith, n, nodes, a.plain, a.node.modest);
      past = omega (arith, spans, within, a.past);
      inner = All-append (λ child. is_settled child ≡ true) (before ++ ks) after (All-append (λ child. is_settled child ≡ true) before ks a.before_settled (a.node.settled a.whole).inner) a.after_settled;
      covers = around_covers root before after extent a;
    }

pub accepted_node : (root : Tree) (before after : List Tree) (extent : ℕ) → IsAcceptable root before after extent → IsNode (accepted root before after extent)
accepted_node root before after extent a =
    fit_is_node (symbol_of root) (production_of root) (total_of root) extent None [] ((before ++ children_of root) ++ after) (accepted_fits root before after extent a)
