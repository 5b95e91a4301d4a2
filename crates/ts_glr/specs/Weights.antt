-- Why a search over all readings ends: a number that falls with each step. It serves private
-- clauses and proofs alone.
use Rattle.std.specs.Prelude.{ℕ, ◌+◌, ◌^◌, List, [], ◌∷◌, map}
use Rattle.ts_core.specs.declared.flat.FlatGrammar.{FlatGrammar}
use Rattle.ts_table.specs.declared.view.ParseTable.{ParseTable}
use Rattle.ts_table.specs.Tables.{most_actions}
use Rattle.ts_gss.specs.declared.layer.Layer.{Layer}
use Rattle.ts_steps.specs.declared.head.StackHead.{StackHead}
use Rattle.ts_steps.specs.LiveHeads.{config_of}
use Rattle.ts_steps.specs.Weights.{config_weight}

-- the weight of a head
abbrev pub head_weight : FlatGrammar → ℕ → List (List Layer) → StackHead → ℕ
head_weight g size stacks h = config_weight g size (config_of stacks h)

-- the sum of powers of a base
abbrev pub powers : ℕ → List ℕ → ℕ
powers base [] = 0
powers base (w ∷ ws) = base ^ w + powers base ws

-- the weight of all heads: each step puts fewer heads than the base in the place of a heavier one
abbrev pub live_weight : ParseTable → ℕ → List (List Layer) → List StackHead → ℕ
live_weight t size stacks live =
    powers (most_actions t + 2) (map (head_weight t.grammar size stacks) live)
