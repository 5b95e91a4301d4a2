-- The best tree and the greatest place so far.
use Rattle.std.specs.Prelude.{◌≡◌, ℕ, ◌≤◌, ◌⊎◌, Option, Some}
use Rattle.ts_core.specs.declared.flat.FlatGrammar.{FlatGrammar}
use Rattle.spec_trees.specs.declared.tree.Tree.{Tree}
use Rattle.spec_trees.specs.Trees.{bare}
use Rattle.spec_trees.specs.Choice.{Better, IsInForm}

-- there is a best tree so far, and this one is not better
abbrev pub Withstands : Option Tree → Tree → Type 0
Withstands best u = (b : Tree) × (best ≡ Some b) × (Better u (bare b) → ⊥)

-- of the best tree so far and a new one, one was kept than which neither is better
pub record KeepsBest (old new : Option Tree) (t : Tree) : Type 0 where
  pub mine : Withstands new (bare t)
  pub others : (u : Tree) → Withstands old u → Withstands new u
  pub from : (new ≡ Some t) ⊎ (new ≡ old)

-- the best tree so far is one of the grammar
abbrev pub HasForm : FlatGrammar → Option Tree → Type 0
HasForm g best = (b : Tree) → best ≡ Some b → IsInForm g b

-- there is a greatest stuck place so far, which is no less
abbrev pub IsPastStuck : Option ℕ → ℕ → Type 0
IsPastStuck stuck q = (r : ℕ) × (stuck ≡ Some r) × (q ≤ r)
