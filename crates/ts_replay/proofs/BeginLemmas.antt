-- What is known where a version has no tree.
use Rattle.std.proofs.Common.{◌≡◌, subst, ℕ, ◌⊎◌, inl, inr}
use Rattle.ts_base.specs.Bytes.{Bytes}
use Rattle.ts_core.specs.declared.flat.FlatGrammar.{FlatGrammar}
use Rattle.spec_trees.specs.Trees.{bare}
use Rattle.ts_glr.specs.Outcomes.{value_of_outcome}
use Rattle.ts_glr.specs.declared.outcome.Outcome.{Outcome}
use Rattle.ts_glr.specs.declared.outcome.Outcome.TheVariants.{Stuck, Deep}
use Rattle.spec_runs.specs.Outcomes.{stuck_outcome, deep_outcome, Fresh}
use Rattle.spec_history.specs.Legal.{HasTree}

none_where_stuck : (g : FlatGrammar) (text : Bytes) (stop : ℕ) → Fresh g text (stuck_outcome stop) → HasTree g text → ⊥
none_where_stuck g text stop last has = last.none (bare has.0) has.1.accepted

none_where_deep : (g : FlatGrammar) (text : Bytes) → Fresh g text deep_outcome → HasTree g text → ⊥
none_where_deep g text deep has = has.1.shallow deep

-- where the outcome is another there is no tree
pub no_tree : (g : FlatGrammar) (text : Bytes) (o : Outcome) → Fresh g text (value_of_outcome o) → ((stop : ℕ) × (o ≡ Stuck stop)) ⊎ (o ≡ Deep) → HasTree g text → ⊥
no_tree g text o fresh (inl w) = none_where_stuck g text w.0 (subst (λ (x : Outcome). Fresh g text (value_of_outcome x)) w.1 fresh)
no_tree g text o fresh (inr w) = none_where_deep g text (subst (λ (x : Outcome). Fresh g text (value_of_outcome x)) w fresh)
