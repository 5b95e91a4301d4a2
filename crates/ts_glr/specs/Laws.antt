-- The laws that the proofs here rest on: those of layers that stand for readings. It serves private
-- clauses and proofs alone.
use Rattle.std.specs.Prelude.{ℕ, ◌⊎◌}
use Rattle.ts_base.specs.Bytes.{Bytes}
use Rattle.ts_core.specs.declared.flat.FlatGrammar.{FlatGrammar}
use Rattle.spec_tables.specs.Fit.{Fit}
use Rattle.spec_trees.specs.declared.tree.Tree.{Tree}
use Rattle.spec_trees.specs.Choice.{Better}
use Rattle.spec_runs.specs.Configurations.{Configuration}
use Rattle.spec_runs.specs.Runs.{IsReached, ComesTooDeep, AcceptsTree, StopsAt}
use Rattle.spec_runs.specs.Outcomes.{SomeIsTooDeep}
use Rattle.spec_packing.specs.Packing.{PackedStack, own_config, stack_alone, Packs, WasMet, GoesThrough, PackedStepsOn, PackedIsTooDeep}

-- For proofs alone: laws of the better of two trees, and of layers that stand for readings.
pub record PackingLaws : Type 0 where
  pub no_better : (t u v : Tree)
      → (Better u t → ⊥) → (Better v u → ⊥) → Better v t → ⊥
  pub own : (g : FlatGrammar) → Fit g → (text : Bytes) (c : Configuration) → IsReached g text c
      → WasMet g text (stack_alone c) × Packs (stack_alone c) c
  pub met : (g : FlatGrammar) → Fit g → (text : Bytes) (k n : PackedStack) → WasMet g text k
      → PackedStepsOn g text k n → WasMet g text n
  pub too_deep : (g : FlatGrammar) → Fit g → (text : Bytes) (k : PackedStack) → WasMet g text k
      → PackedIsTooDeep g text k → SomeIsTooDeep g text
  pub on : (g : FlatGrammar) → Fit g → (text : Bytes) (k : PackedStack) (d : Configuration)
      → WasMet g text k → GoesThrough g text k d
      → Packs k d ⊎ (PackedIsTooDeep g text k
      ⊎ ((n : PackedStack) × PackedStepsOn g text k n × GoesThrough g text n d))
  pub deep : (g : FlatGrammar) → Fit g → (text : Bytes) (k : PackedStack) (c : Configuration)
      → WasMet g text k → IsReached g text c → Packs k c → ComesTooDeep g text c
      → PackedIsTooDeep g text k
  pub stops : (g : FlatGrammar) → Fit g → (text : Bytes) (k : PackedStack) (c : Configuration)
      (place : ℕ) → Packs k c → StopsAt g text c place → StopsAt g text (own_config k) place
  pub accepts : (g : FlatGrammar) → Fit g → (text : Bytes) (k : PackedStack) (c : Configuration)
      (u : Tree) → WasMet g text k → IsReached g text c → Packs k c → AcceptsTree g text c u
      → (t : Tree) × AcceptsTree g text (own_config k) t × (Better u t → ⊥)
