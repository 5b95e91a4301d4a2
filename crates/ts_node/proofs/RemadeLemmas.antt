-- What an edit leaves of a node that can be remade is a node.
use Rattle.std.proofs.Common.{◌≡◌, ℕ, zero, suc, ◌+◌, sym, ap, ◌∙◌, subst, refl, arith, false, List, [], ◌∷◌, length}
use Rattle.std.specs.Int.RustNames.{unsigned_abs}
use lib.IntN.{ℤ, ◌+ℤ◌}
use Rattle.spec_trees.specs.declared.tree.Tree.{Tree}
use Rattle.spec_trees.specs.declared.tree.Element.{Element}
use Rattle.spec_trees.specs.declared.tree.Tree.TheOpen.{Tree-F}
use Rattle.spec_trees.specs.declared.tree.Tree.TheViews.{out-Tree, out-roll-Tree}
use Rattle.spec_trees.specs.declared.tree.Tree.TheFolds.{fold-roll-Tree, fold_out-Tree}
use Rattle.spec_trees.specs.Trees.{elements_of, children_of, is_settled, total_of, all_totals, all_values, pad_of, size_of, all_spans, node_count, nodes_step, all_nodes, tree_depth, depth_step, greatest_depth}
use Rattle.spec_trees.specs.Made.{IsNode, AreCounted, AreElementsWell, IsTotalOf, children_count, loosened, loosened_at, remade, replaced}
use Rattle.ts_node.specs.Standing.{CanBeRemade}
use Rattle.ts_node.proofs.RunLemmas.{length-loosened_at, count-loosened_at}
use Rattle.ts_node.proofs.RemakeLemmas.{length-replaced}

abbrev new_layer : Tree → ℕ → ℕ → List (ℕ × Tree) → List ℕ → Tree-F Tree
new_layer t pad size changes loose = record (out-Tree t) { pad = pad; size = size; settled = false; elements = loosened loose (elements_of t); children = replaced changes (children_of t) }

-- ---- elements of which some are not settled

-- what is added up over them stays
values-loosened_at : (k : ℕ) (es : List Element) → all_values (loosened_at k es) ≡ all_values es
values-loosened_at k [] = refl
values-loosened_at zero (e ∷ es) = refl
values-loosened_at (suc k) (e ∷ es) = ap (λ (v : ℤ). e.dynamic +ℤ v) (values-loosened_at k es)

values-loosened : (ks : List ℕ) (es : List Element) → all_values (loosened ks es) ≡ all_values es
values-loosened [] es = refl
values-loosened (k ∷ ks) es = values-loosened ks (loosened_at k es) ∙ values-loosened_at k es

length-loosened : (ks : List ℕ) (es : List Element) → length (loosened ks es) ≡ length es
length-loosened [] es = refl
length-loosened (k ∷ ks) es = length-loosened ks (loosened_at k es) ∙ length-loosened_at k es

count-loosened : (ks : List ℕ) (es : List Element) → children_count (loosened ks es) ≡ children_count es
count-loosened [] es = refl
count-loosened (k ∷ ks) es = count-loosened ks (loosened_at k es) ∙ count-loosened_at k es

pub still_counted : (es fs : List Element) (ks us : List Tree) → length fs ≡ length es → children_count fs ≡ children_count es → length us ≡ length ks → AreCounted es ks → AreCounted fs us
still_counted es [] ks us many count e c = tt
still_counted [] (f ∷ fs) ks us many count e c = absurd (omega (arith, many))
still_counted (d ∷ es) (f ∷ fs) ks us many count e c = count ∙ c ∙ sym e

pub still_total : (total : ℤ) (es fs : List Element) (ks us : List Tree) → length fs ≡ length es → all_values fs ≡ all_values es → all_totals us ≡ all_totals ks → IsTotalOf total es ks → IsTotalOf total fs us
still_total total es [] ks us many values e c = tt
still_total total [] (f ∷ fs) ks us many values e c = absurd (omega (arith, many))
still_total total (d ∷ es) (f ∷ fs) ks us many values e c =
    c ∙ ap (λ (v : ℤ). v +ℤ all_totals ks) (sym values) ∙ ap (λ (v : ℤ). all_values (f ∷ fs) +ℤ v) (sym e)

-- ---- the node

pub remade_node : (t : Tree) (pad size : ℕ) (changes : List (ℕ × Tree)) (loose : List ℕ) → CanBeRemade t pad size changes loose → IsNode (remade t pad size changes loose)
remade_node t pad size changes loose r =
    let layer = new_layer t pad size changes loose in
    let u = remade t pad size changes loose in
    let es = loosened loose (elements_of t) in
    let ks = replaced changes (children_of t) in
    let o = out-roll-Tree layer in
    let n : node_count u ≡ 1 + (length es + all_nodes ks) = fold-roll-Tree ℕ nodes_step layer in
    let l : length es ≡ length (elements_of t) = length-loosened loose (elements_of t) in
    let m : node_count t ≡ 1 + (length (elements_of t) + all_nodes (children_of t)) = fold_out-Tree ℕ nodes_step t in
    let d : tree_depth u ≡ 1 + greatest_depth ks = fold-roll-Tree ℕ depth_step layer in
    let b : tree_depth t ≡ 1 + greatest_depth (children_of t) = fold_out-Tree ℕ depth_step t in
    let p : pad_of u ≡ pad = ap (λ (x : Tree-F Tree). x.pad) o in
    let z : size_of u ≡ size = ap (λ (x : Tree-F Tree). x.size) o in
    let c : children_of u ≡ ks = ap (λ (x : Tree-F Tree). x.children) o in
    let e : elements_of u ≡ es = ap (λ (x : Tree-F Tree). x.elements) o in
    let g : total_of u ≡ total_of t = ap (λ (x : Tree-F Tree). x.dynamic) o in
    let v : unsigned_abs (total_of u) ≡ unsigned_abs (total_of t) = ap (λ (x : Tree-F Tree). unsigned_abs x.dynamic) o in
    let w : all_spans (children_of u) ≡ all_spans ks = ap all_spans c in
    let unsettled : is_settled u ≡ false = ap (λ (x : Tree-F Tree). x.settled) o in
    record {
      sized = record {
        few = omega (arith, n, m, l, r.nodes, r.node.sized.few);
        short = omega (arith, p, z, r.short);
        within = omega (arith, p, z, w, r.within);
        shallow = omega (arith, d, b, r.shallow, r.node.sized.shallow);
      };
      counted = subst (λ (x : List Element). AreCounted x (children_of u)) (sym e)
          (subst (λ (x : List Tree). AreCounted es x) (sym c) (still_counted (elements_of t) es (children_of t) ks l (count-loosened loose (elements_of t)) (length-replaced changes (children_of t)) r.node.counted));
      totalled = subst (λ (x : ℤ). IsTotalOf x (elements_of u) (children_of u)) (sym g)
          (subst (λ (x : List Element). IsTotalOf (total_of t) x (children_of u)) (sym e)
          (subst (λ (x : List Tree). IsTotalOf (total_of t) es x) (sym c) (still_total (total_of t) (elements_of t) es (children_of t) ks l (values-loosened loose (elements_of t)) r.totals r.node.totalled)));
      elements = subst (λ (x : List Element). AreElementsWell x (children_of u)) (sym e) (subst (λ (x : List Tree). AreElementsWell es x) (sym c) r.elements);
      modest = omega (arith, v, n, m, l, r.nodes, r.node.modest);
      settled = λ h. cc;
    }
