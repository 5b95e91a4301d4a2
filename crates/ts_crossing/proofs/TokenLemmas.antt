-- Which nodes are tokens that were shifted.
use Rattle.std.proofs.Common.{◌≡◌, ◌∙◌, sym, ap, ℕ, refl, Bool, true, false, not, List, length, Option, Some, None, arith}
use Rattle.spec_trees.specs.declared.tree.Tree.{Tree}
use Rattle.spec_trees.specs.declared.tree.Element.{Element}
use Rattle.spec_trees.specs.Trees.{elements_of, is_extra_node}
use Rattle.ts_node.specs.Kinds.{IsLeafNode, IsRuleNode, IsRepetitionNode}
use Rattle.ts_crossing.specs.Leaving.{IsTokenTree}

not_true : (b : Bool) → not b ≡ true → b ≡ false
not_true true e = absurd (let h : false ≡ true = e in cc)
not_true false e = refl

not_false : (b : Bool) → not b ≡ false → b ≡ true
not_false true e = refl
not_false false e = absurd (let h : true ≡ false = e in cc)

module _ (t : Tree) where
  pub leaf_token : IsLeafNode t → (extra : Bool) → extra ≡ is_extra_node t → not extra ≡ true → IsTokenTree t
  leaf_token leaf extra is e = record { leaf = record { production = leaf.production; elements = leaf.elements }; fills = sym is ∙ not_true extra e }

  pub leaf_extra : (extra : Bool) → extra ≡ is_extra_node t → not extra ≡ false → IsTokenTree t → ⊥
  leaf_extra extra is e token = let h : true ≡ false = sym (not_false extra e) ∙ is ∙ token.fills in cc

  pub no_rule : (number : ℕ) → IsRuleNode number t → IsTokenTree t → ⊥
  no_rule number rule token = let h : ◌≡◌ {A = Option ℕ} (Some number) None = sym rule.production ∙ token.leaf.production in cc

  pub no_repetition : IsRepetitionNode t → IsTokenTree t → ⊥
  no_repetition rep token = let some = rep.elements in let e : length (elements_of t) ≡ 0 = ap (λ (l : List Element). length l) token.leaf.elements in omega (arith, some, e)
