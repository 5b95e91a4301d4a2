-- How far the text was examined for some trees, one after another.
use Rattle.std.proofs.Common.{◌≡◌, ◌∙◌, sym, ap, subst, ℕ, suc, ◌+◌, ◌<◌, ◌≤◌, max, List, ◌∷◌, length, drop, drop-cons, get_or, arith}
use Rattle.spec_trees.specs.declared.tree.Tree.{Tree}
use Rattle.spec_trees.specs.Trees.{span_of, node_extent, all_spans}
use Rattle.spec_trees.specs.Made.{EndBy}

-- what is left of a list begins with the tree at hand
pub dropped : (ts : List Tree) (i : ℕ) (t : Tree) → i < length ts → t ≡ get_or ts i t → drop i ts ≡ t ∷ drop (i + 1) ts
dropped ts i t low is =
    let n : suc i ≡ i + 1 = omega arith in
    drop-cons ts i t low ∙ ap (λ (x : Tree). x ∷ drop (suc i) ts) (sym is) ∙ ap (λ (k : ℕ). t ∷ drop k ts) n

pub spans_dropped : (ts : List Tree) (i : ℕ) (t : Tree) → i < length ts → t ≡ get_or ts i t → all_spans (drop i ts) ≡ span_of t + all_spans (drop (i + 1) ts)
spans_dropped ts i t low is = ap all_spans (dropped ts i t low is)

-- the tree at hand ends by the limit
pub end_first : (limit place : ℕ) (ts : List Tree) (i : ℕ) (t : Tree) → EndBy limit place (drop i ts) → i < length ts → t ≡ get_or ts i t → place + node_extent t ≤ limit
end_first limit place ts i t e low is = (subst (λ (l : List Tree). EndBy limit place l) (dropped ts i t low is) e).0

pub covers_more : (ts : List Tree) (i : ℕ) (t : Tree) (from place new old end : ℕ) → i < length ts → t ≡ get_or ts i t → new ≡ place + span_of t → old ≤ end → place + node_extent t ≤ end
    → ((e : ℕ) → old ≤ e → EndBy e place (drop i ts) → EndBy e from ts) → (e : ℕ) → end ≤ e → EndBy e new (drop (i + 1) ts) → EndBy e from ts
covers_more ts i t from place new old end low is new_is up reach before e le rest =
    before e (omega (arith, up, le))
    (subst (λ (l : List Tree). EndBy e place l) (sym (dropped ts i t low is))
    (omega (arith, reach, le), subst (λ (n : ℕ). EndBy e n (drop (i + 1) ts)) new_is rest))

pub most_more : (ts : List Tree) (i : ℕ) (t : Tree) (from place new old end least : ℕ) → i < length ts → t ≡ get_or ts i t → new ≡ place + span_of t → end ≡ max (place + node_extent t) old
    → ((start limit : ℕ) → EndBy limit (start + from) ts → EndBy limit (start + place) (drop i ts) × (start + least ≤ limit → start + old ≤ limit))
    → (start limit : ℕ) → EndBy limit (start + from) ts → EndBy limit (start + new) (drop (i + 1) ts) × (start + least ≤ limit → start + end ≤ limit)
most_more ts i t from place new old end least low is new_is end_is before start limit all =
    let b = before start limit all in
    let e : EndBy limit (start + place) (t ∷ drop (i + 1) ts) = subst (λ (l : List Tree). EndBy limit (start + place) l) (dropped ts i t low is) b.0 in (
      subst (λ (n : ℕ). EndBy limit n (drop (i + 1) ts)) (omega (arith, new_is)) e.1,
      (λ h. let o = b.1 h in let r = e.0 in omega (arith, end_is, o, r)),
    )
