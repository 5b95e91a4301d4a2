use Rattle.std.proofs.Common.{ℕ, subst}
use Rattle.ts_core.specs.declared.flat.FlatGrammar.{FlatGrammar}
use Rattle.spec_trees.specs.Reducible.{HasSmallValue}
use Rattle.ts_node.proofs.ProductionLemmas.{values_small}
use Rattle.ts_node.proofs.productions.Productions.values_are_small.Goals as goal

pub returns : goal.returns
returns c = subst (λ (g : FlatGrammar). (number : ℕ) → HasSmallValue g number) c.self.view_is (values_small _ _ c.self.invariant)
