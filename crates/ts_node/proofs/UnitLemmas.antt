-- Nodes over an only child.
use Rattle.std.proofs.Common.{◌≡◌, ◌∙◌, ℕ, ◌+◌, ◌-◌, ◌<◌, ◌≤◌, ◌^◌, ap, sym, refl, arith, true, List, [], ◌∷◌, length, Option}
use Rattle.std.specs.Prelude.{All}
use Rattle.std.specs.Int.RustNames.{unsigned_abs}
use Rattle.std.proofs.lemmas.Int.{ints}
use Rattle.std.proofs.lemmas.List.Elements.{All-cons}
use lib.IntN.{ℤ, ◌+ℤ◌}
use Rattle.ts_core.specs.declared.symbol.Symbol.{Symbol}
use Rattle.spec_trees.specs.declared.tree.Tree.{Tree}
use Rattle.spec_trees.specs.declared.tree.Element.{Element}
use Rattle.spec_trees.specs.Trees.{all_spans, all_totals, first_pad, total_of}
use Rattle.spec_trees.specs.Made.{IsNode, node_over}
use Rattle.ts_node.specs.declared.node.Summary.{Summary}
use Rattle.ts_node.specs.declared.node.Sums.{Sums}
use Rattle.ts_node.specs.declared.make.Head.{Head}
use Rattle.ts_node.specs.Held.{body_tree, HoldsNodes, IsSum, IsSummary, Tells}
use Rattle.ts_node.proofs.BodyLemmas.{HasRoom, IsOver, over_kept}

no_nodes : All HoldsNodes []
no_nodes k d low = absurd (omega (arith, low))

total_alone : (t : Tree) → all_totals (t ∷ []) ≡ total_of t
total_alone t = omega (arith, ints)

-- what is added up over one tree
pub one_sum : (s : Summary) (r : Sums) (t : Tree) → Tells s t → r.nodes ≡ s.nodes → r.spans ≡ s.pad + s.size → r.depth ≡ s.depth → r.totals ≡ s.dynamic → IsSum r (t ∷ [])
one_sum s r t k n p d v = record {
  nodes = omega (arith, n, k.nodes);
  spans = omega (arith, p, k.pad, k.size);
  depth = omega (arith, d, k.depth);
  totals = v ∙ k.dynamic ∙ sym (total_alone t);
  few = omega (arith, k.node.sized.few);
  short = omega (arith, k.node.sized.short);
  modest =
      let same : unsigned_abs (all_totals (t ∷ [])) ≡ unsigned_abs (total_of t) = ap unsigned_abs (total_alone t) in
      omega (arith, same, k.node.modest);
  whole = All-cons HoldsNodes t [] k.whole no_nodes;
}

-- what a summary over one tree needs
pub record FitsOne (s : Summary) (r : Sums) (more : ℕ) : Type 0 where
  pub pad : s.pad ≤ r.spans
  pub short : r.spans < 2 ^ 32
  pub few : 1 + (more + r.nodes) < 2 ^ 32
  pub shallow : 1 + r.depth < 2 ^ 16

pub fits_one : (s : Summary) (r : Sums) (t : Tree) (es : List Element) → Tells s t → IsSum r (t ∷ []) → HasRoom es (t ∷ []) → FitsOne s r (length es)
fits_one s r t es k q w = record {
  pad = omega (arith, k.pad, w.pad, q.spans);
  short = omega (arith, w.short, q.spans);
  few = omega (arith, w.few, q.nodes);
  shallow = omega (arith, w.shallow, q.depth);
}

-- what is summed up over one tree
pub record IsOverOne (u : Summary) (s : Summary) (r : Sums) (h : Head) (number more : ℕ) : Type 0 where
  pub symbol : u.symbol ≡ h.symbol
  pub depth : u.depth ≡ 1 + r.depth
  pub nodes : u.nodes ≡ 1 + (more + r.nodes)
  pub pad : u.pad ≡ s.pad
  pub size : u.size ≡ r.spans - s.pad
  pub extent : u.extent ≡ h.extent
  pub state : u.state ≡ h.state
  pub settled : u.settled ≡ true
  pub production : u.production ≡ number
  pub dynamic : u.dynamic ≡ h.dynamic

pub over_one : (u s : Summary) (r : Sums) (h : Head) (production : ℕ) (p : Option ℕ) (es : List Element) (t : Tree) → IsOverOne u s r h production (length es) → Tells s t → IsSum r (t ∷ []) → IsNode (node_over h.symbol.0 p h.dynamic h.extent h.state es (t ∷ [])) → IsSummary u (body_tree u p es (t ∷ []))
over_one u s r h production p es t o k q n =
    let x : u.pad ≡ first_pad (t ∷ []) = o.pad ∙ k.pad in
    let z : u.size ≡ all_spans (t ∷ []) - first_pad (t ∷ []) = o.size ∙ ap (λ (m : ℕ). m - s.pad) q.spans ∙ ap (λ (m : ℕ). all_spans (t ∷ []) - m) k.pad in
    let all : IsOver u h.symbol h.dynamic h.extent h.state es (t ∷ []) = record {
      symbol = o.symbol;
      depth = omega (arith, o.depth, q.depth);
      nodes = omega (arith, o.nodes, q.nodes);
      pad = x;
      size = z;
      extent = o.extent;
      state = o.state;
      settled = o.settled;
      dynamic = o.dynamic;
      whole = q.whole;
    } in
    over_kept u h.symbol p h.dynamic h.extent h.state es (t ∷ []) all n

-- what a node is given over one tree
pub head_is : (h : Head) (symbol : Symbol) (p : Option ℕ) (value : ℤ) (extent : ℕ) (state : Option ℕ) (es : List Element) (s : Summary) (t : Tree) → h.symbol ≡ symbol → h.dynamic ≡ value +ℤ s.dynamic → h.extent ≡ extent → h.state ≡ state → Tells s t
    → node_over h.symbol.0 p h.dynamic h.extent h.state es (t ∷ []) ≡ node_over symbol.0 p (value +ℤ all_totals (t ∷ [])) extent state es (t ∷ [])
head_is h symbol p value extent state es s t a b c d k =
    let total : h.dynamic ≡ value +ℤ all_totals (t ∷ []) = b ∙ ap (λ (x : ℤ). value +ℤ x) (k.dynamic ∙ sym (total_alone t)) in
    rw (a, total, c, d) refl

-- a tree's total is small
pub small_total : (s : Summary) (t : Tree) → Tells s t → unsigned_abs s.dynamic + 2 ^ 31 < 2 ^ 63
small_total s t k =
    let same : unsigned_abs s.dynamic ≡ unsigned_abs (total_of t) = ap unsigned_abs k.dynamic in
    omega (arith, same, k.node.modest, k.node.sized.few)
