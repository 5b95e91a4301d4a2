-- Settled elements of a repetition from a place on.
use Rattle.std.proofs.Common.{◌≡◌, ◌∙◌, sym, ap, refl, subst, ℕ, suc, ◌+◌, ◌<◌, ◌≤◌, Bool, true, false, if◌then◌else◌, List, [], ◌∷◌, length, take, drop, Option, Some, None, All, arith}
use Rattle.std.specs.Prelude.{IfSome}
use Rattle.std.proofs.lemmas.List.{drop-take, length-drop}
use Rattle.std.proofs.lemmas.List.Elements.{All-cons, All-nil}
use Rattle.spec_trees.specs.declared.tree.Tree.{Tree}
use Rattle.spec_trees.specs.declared.tree.Element.{Element}
use Rattle.spec_trees.specs.Trees.{symbol_of, state_of, elements_of, children_of}
use Rattle.spec_trees.specs.Made.{stretch_in, bytes_before, settled_first}
use Rattle.spec_reuse.specs.Places.{IsIn, lead_of}
use Rattle.ts_node.proofs.ElementLemmas.{settled_within}
use Rattle.ts_offer.specs.declared.elements.Elements.{Elements}
use Rattle.ts_offer.specs.declared.way.Turn.{Turn}
use Rattle.ts_offer.specs.Answers.{IsSettledRun, IsStretchAt, stretch_of}
use Rattle.ts_offer.specs.Ways.{StandsIn}

-- as many as are settled from the first on are settled
settled_so_far : (es : List Element) → All (λ e. e.settled ≡ true) (take (settled_first es) es)
settled_so_far [] = All-nil (λ e. e.settled ≡ true)
settled_so_far (e ∷ es) = by e.settled refl (settled_so_far es)
  where
    by : (b : Bool) → e.settled ≡ b → All (λ x. x.settled ≡ true) (take (settled_first es) es) → All (λ x. x.settled ≡ true) (take (if b then suc (settled_first es) else 0) (e ∷ es))
    by true is rest = All-cons (λ x. x.settled ≡ true) e (take (settled_first es) es) is rest
    by false is rest = All-nil (λ x. x.settled ≡ true)

pub settled_run : (node : Tree) (from count : ℕ) → from < length (elements_of node) → 0 < from → 0 < count → count ≡ settled_first (drop from (elements_of node)) → IsSettledRun node from (from + count)
settled_run node from count there later some is =
    let es : List Element = elements_of node in
    let n : ℕ = settled_first (drop from es) in
    let part : drop from (take (from + count) es) ≡ take n (drop from es) = drop-take from count es ∙ ap (λ (k : ℕ). take k (drop from es)) is in
    record {
      later = later;
      some = omega (arith, some);
      within = omega (arith, is, there, settled_within (drop from es), length-drop from es);
      settled = subst (λ (l : List Element). All (λ e. e.settled ≡ true) l) (sym part) (settled_so_far (drop from es));
      far = ap (λ (k : ℕ). from + k) is;
    }

-- ---- what is found at a turn

pub run_found : (node : Tree) (o : Option Elements) → IfSome o (λ e. e.node.now ≡ node) → IfSome o (λ e. IsSettledRun node e.from e.to) → IfSome o (λ e. IsSettledRun e.node.now e.from e.to)
run_found node None same run = tt
run_found node (Some e) same run = subst (λ (x : Tree). IsSettledRun x e.from e.to) (sym same) run

pub stretch_found : (root : Tree) (t : Turn) (at place state symbol : ℕ) (o : Option Elements) → StandsIn root t → t.begins ≡ Some at → (symbol_of t.node.now ≡ symbol) × (state_of t.node.now ≡ Some state)
    → IfSome o (λ e. e.node.now ≡ t.node.now) → IfSome o (λ e. IsSettledRun t.node.now e.from e.to) → IfSome o (λ e. at + bytes_before e.from (stretch_in t.node.now) ≡ place)
    → IfSome o (λ e. IsStretchAt root place state symbol (stretch_of e))
stretch_found root t at place state symbol None stands begins is same run there = tt
stretch_found root t at place state symbol (Some e) stands begins is same run there = record {
  node = e.node.now;
  at = at;
  there = subst (λ (x : Tree). IsIn (children_of root) (lead_of root) x at) (sym same) (stands at begins);
  below = ap state_of same ∙ is.1;
  named = ap symbol_of same ∙ is.0;
  from = e.from;
  to = e.to;
  run = subst (λ (x : Tree). IsSettledRun x e.from e.to) (sym same) run;
  begins = ap (λ (x : Tree). at + bytes_before e.from (stretch_in x)) same ∙ there;
  stretch_is = refl;
}

-- ---- what a trait's clauses ask

pub cut_of : (o : Option Elements) → IfSome o (λ e. IsSettledRun e.node.now e.from e.to) → IfSome o (λ e. (e.from < e.to) × (e.to ≤ length (elements_of e.node.now)))
cut_of None run = tt
cut_of (Some e) run = (run.some, run.within)

pub told_elements : (tree : Tree) (place state symbol : ℕ) (o : Option Elements) → IfSome o (λ e. IsStretchAt tree place state symbol (stretch_of e)) → (t : Tree) → Some tree ≡ Some t → IfSome o (λ e. IsStretchAt t place state symbol (stretch_of e))
told_elements tree place state symbol o a t e =
    let d : tree ≡ t = cc in
    subst (λ (x : Tree). IfSome o (λ e. IsStretchAt x place state symbol (stretch_of e))) d a
