-- Nodes over children, as moves make them.
use Rattle.std.proofs.Common.{◌≡◌, ◌∙◌, sym, ap, refl, subst, ℕ, ◌-◌, ◌<◌, false, true≢false, List, [], ◌∷◌, ◌++◌, length, Option, Some, None, arith}
use lib.IntN.{ℤ, ◌+ℤ◌}
use Rattle.ts_core.specs.declared.flat.FlatGrammar.{FlatGrammar}
use Rattle.spec_trees.specs.declared.tree.Tree.{Tree}
use Rattle.spec_trees.specs.declared.tree.Element.{Element}
use Rattle.spec_trees.specs.declared.tree.Tree.TheOpen.{Tree-F}
use Rattle.spec_trees.specs.declared.tree.Tree.TheViews.{out-roll-Tree}
use Rattle.spec_trees.specs.Trees.{production_of, pad_of, size_of, elements_of, children_of, is_extra_node, total_of, all_totals, span_of, all_spans, first_pad}
use Rattle.spec_trees.specs.Made.{node_over, element, Form, of_rule, of_first, of_next, form_of, made_by, left_of, value_of, reduced}
use Rattle.ts_steps.specs.Heads.{IsMadeNode}
use Rattle.ts_steps.proofs.NodeLemmas.{over_layer, first_pad_within}

module _ (g : FlatGrammar) where
  pub made_over : (symbol : ℕ) (production : Option ℕ) (dynamic : ℤ) (extent : ℕ) (state : Option ℕ) (es : List Element) (ks : List Tree) → (0 < length es → production ≡ None) → IsMadeNode g (node_over symbol production dynamic extent state es ks)
  made_over symbol production dynamic extent state es ks numberless =
      let t : Tree = node_over symbol production dynamic extent state es ks in
      let o = out-roll-Tree (over_layer symbol production dynamic extent state es ks) in
      let production_is : production_of t ≡ production = ap (λ (x : Tree-F Tree). x.production) o in
      let elements_are : elements_of t ≡ es = ap (λ (x : Tree-F Tree). x.elements) o in
      let children_are : children_of t ≡ ks = ap (λ (x : Tree-F Tree). x.children) o in
      let pad_is : pad_of t ≡ first_pad ks = ap (λ (x : Tree-F Tree). x.pad) o in
      let size_is : size_of t ≡ all_spans ks - first_pad ks = ap (λ (x : Tree-F Tree). x.size) o in
      let extra_is : is_extra_node t ≡ false = ap (λ (x : Tree-F Tree). x.extra) o in
      let span_is : span_of t ≡ all_spans ks = omega (arith, pad_is, size_is, first_pad_within ks) in
      record {
        numberless = λ h. production_is ∙ numberless (subst (λ (l : List Element). 0 < length l) elements_are h);
        pad = λ h. pad_is ∙ ap first_pad (sym children_are);
        span = λ h. span_is ∙ ap all_spans (sym children_are);
        extra = λ h. absurd (true≢false (sym h ∙ extra_is));
      }

  -- the node of a reduction, whatever its children
  pub made_reduced : (number extent : ℕ) (state : Option ℕ) (ks : List Tree) → IsMadeNode g (reduced g number extent state ks)
  made_reduced number extent state ks = by (form_of g (left_of g number) number) ks
    where
      by : (f : Form) (ks : List Tree) → IsMadeNode g (made_by f (left_of g number) number (value_of g number) extent state ks)
      by of_rule ks = made_over (left_of g number) (Some number) (value_of g number +ℤ all_totals ks) extent state [] ks (λ h. absurd (omega (arith, h)))
      by (of_first a) ks = made_over (left_of g number) None (value_of g number +ℤ all_totals ks) extent state (element a (length ks) (value_of g number) extent ∷ []) ks (λ h. refl)
      by (of_next a) [] = made_over (left_of g number) None (value_of g number) extent state [] [] (λ h. refl)
      by (of_next a) (before ∷ more) =
          made_over (left_of g number) None (value_of g number +ℤ (total_of before +ℤ all_totals more)) extent state
          (elements_of before ++ element a (length more) (value_of g number) (extent - span_of before) ∷ []) (children_of before ++ more) (λ h. refl)
