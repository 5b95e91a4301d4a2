-- A walk down over the extras on top of a stack.
use Rattle.std.proofs.Common.{◌≡◌, ◌∙◌, sym, ap, refl, ℕ, ◌+◌, ◌<◌, ◌≤◌, true, false, List, [], ◌∷◌, ◌++◌, length, Some, arith}
use Rattle.spec_trees.specs.declared.tree.Tree.{Tree}
use Rattle.spec_trees.specs.Trees.{pad_of, size_of, all_spans}
use Rattle.spec_trees.specs.Made.{BeginsFilled}
use Rattle.ts_gss.specs.declared.layer.Layer.{Layer}
use Rattle.ts_gss.specs.Stacks.{stack_at, trees_on, tree_on, under_top, begins_with_extra}
use Rattle.ts_gss.specs.Paths.{Lifting}
use Rattle.ts_steps.specs.declared.head.StackHead.{StackHead}
use Rattle.ts_graph.proofs.SpanLemmas.{rest_spans}
use Rattle.ts_crossing.specs.Entering.{IsUnder}
use Rattle.ts_crossing.proofs.BareLemmas.{spans_append}
use Rattle.ts_crossing.proofs.PartLemmas.{lift_more}

pub some_extra : (layers : List Layer) → begins_with_extra layers ≡ true → 0 < length layers
some_extra [] e = absurd (let h : false ≡ true = e in cc)
some_extra (l ∷ layers) e = omega arith

-- ---- the extras on top

-- extras were passed down to this stack, which ends at the place
pub record Passed (stacks : List (List Layer)) (h : StackHead) (top place : ℕ) : Type 0 where
  pub there : top < length stacks
  pub extras : List Tree
  pub lifting : Lifting (stack_at stacks h.top) extras (stack_at stacks top)
  pub spans : all_spans (trees_on (stack_at stacks top)) ≡ place
  pub place_is : place + all_spans extras ≡ h.place
  pub low : top ≤ h.top

pub pass_first : (stacks : List (List Layer)) (h : StackHead) → h.top < length stacks → all_spans (trees_on (stack_at stacks h.top)) ≡ h.place → Passed stacks h h.top h.place
pass_first stacks h there spans = record { there = there; extras = []; lifting = record { trees = refl; all_extras = tt; rest = refl }; spans = spans; place_is = omega arith; low = omega arith }

pub pass_more : (stacks : List (List Layer)) (h : StackHead) (top place below left : ℕ) (node : Tree) → Passed stacks h top place → begins_with_extra (stack_at stacks top) ≡ true → Some node ≡ tree_on (stack_at stacks top)
    → stack_at stacks below ≡ under_top (stack_at stacks top) → below < top → left + (pad_of node + size_of node) ≡ place → Passed stacks h below left
pass_more stacks h top place below left node p extra node_is below_is lower left_is = record {
  there = let t = p.there in omega (arith, t, lower);
  extras = p.extras ++ node ∷ [];
  lifting = lift_more (stack_at stacks h.top) (stack_at stacks top) (stack_at stacks below) p.extras (p.extras ++ node ∷ []) node p.lifting (sym extra) node_is below_is refl;
  spans = ap (λ (ls : List Layer). all_spans (trees_on ls)) below_is ∙ rest_spans (stack_at stacks top) node place left node_is p.spans left_is;
  place_is = let q = p.place_is in let a = spans_append p.extras (node ∷ []) in omega (arith, q, a, left_is);
  low = let l = p.low in omega (arith, l, lower);
}

no_extra : (layers : List Layer) → begins_with_extra layers ≡ false → BeginsFilled (trees_on layers)
no_extra [] e = tt
no_extra (l ∷ layers) e = e

pub pass_last : (stacks : List (List Layer)) (h : StackHead) (top place : ℕ) → Passed stacks h top place → begins_with_extra (stack_at stacks top) ≡ false → IsUnder stacks h (record { top = top; place = place })
pass_last stacks h top place p none = record {
  extras = p.extras;
  lifted = record { trees = p.lifting.trees; all_extras = p.lifting.all_extras; no_more = no_extra (stack_at stacks top) none; rest = p.lifting.rest };
  there = p.there;
  place = p.place_is;
}
