-- The nodes in which a node stands, by their depths: what they are for a first child.
use Rattle.std.proofs.Common.{◌≡◌, ℕ, suc, ◌<◌, ◌≤◌, inl, inr, sym, ap, subst, arith, List, length, set}
use Rattle.std.specs.Prelude.{slice_index_or}
use Rattle.std.proofs.lemmas.Bool.{cases_lt}
use Rattle.std.proofs.lemmas.List.{get_or-set_same, get_or-set_other}
use Rattle.spec_trees.specs.declared.visible.VisibleNode.{VisibleNode}
use Rattle.spec_trees.specs.Family.{depth_at, IsFirstChild}
use Rattle.ts_cursor.specs.Linked.{IsOver, IsPath, DepthsRise}

-- what stands over a first child: its parent, and what stands over that
pub path_down : (nodes : List VisibleNode) (k m depth : ℕ) (path after : List ℕ)
    → DepthsRise nodes
    → IsPath nodes k path → IsFirstChild nodes k m → depth ≡ depth_at nodes k → depth < length path → after ≡ set path depth k
    → IsPath nodes m after
path_down nodes k m depth path after rises over child is room sets =
    subst (λ (p : List ℕ). IsPath nodes m p) (sym sets) (subst (λ (j : ℕ). IsPath nodes j (set path depth k)) (sym child.next) below)
  where
    rest : (d : ℕ) → d < depth → IsOver nodes (suc k) d (slice_index_or path d 0)
    rest d h =
        let o : IsOver nodes k d (slice_index_or path d 0) = over d (omega (arith, h, is)) in
        record {
          earlier = omega (arith, o.earlier);
          level = o.level;
          between = λ i past before. elim (cases_lt i k) [
            | inl lt ↦ o.between i past lt
            | inr ge ↦ (let e : i ≡ k = omega (arith, ge, before) in let f : depth_at nodes i ≡ depth_at nodes k = ap (λ (j : ℕ). depth_at nodes j) e in omega (arith, f, h, is))
          ];
        }

    own : IsOver nodes (suc k) depth k
    own = record {
      earlier = omega arith;
      level = sym is;
      between = λ i past before. absurd (omega (arith, past, before));
    }

    at_own : slice_index_or (set path depth k) depth 0 ≡ k
    at_own = get_or-set_same path depth k 0 room

    at_rest : (d : ℕ) → d < depth → slice_index_or (set path depth k) d 0 ≡ slice_index_or path d 0
    at_rest d h = get_or-set_other path depth d k 0 (λ e. omega (arith, e, h))

    deep : depth_at nodes (suc k) ≤ suc depth
    deep =
        let w : suc k < length nodes = omega (arith, child.within, child.next) in
        omega (arith, rises k w, is)

    below : IsPath nodes (suc k) (set path depth k)
    below d h = elim (cases_lt d depth) [
      | inl lt ↦ subst (λ (p : ℕ). IsOver nodes (suc k) d p) (sym (at_rest d lt)) (rest d lt)
      | inr ge ↦ (let e : depth ≡ d = omega (arith, ge, h, deep) in subst (λ (x : ℕ). IsOver nodes (suc k) x (slice_index_or (set path depth k) x 0)) e (subst (λ (p : ℕ). IsOver nodes (suc k) depth p) (sym at_own) own))
    ]
