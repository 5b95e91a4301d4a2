-- Marks for valid tokens.
use Rattle.std.specs.Prelude.{◌≡◌, ℕ, ◌<◌, suc, Bool, true, List, length, slice_get, Some, ◌↔◌}
use Rattle.std.specs.List.{Contains}
use Rattle.ts_core.specs.declared.symbol.Symbol.{Symbol}

-- there is a mark for each of so many tokens, and it tells whether the token is valid
pub record AreMarks (n : ℕ) (valid : List Symbol) (marks : List Bool) : Type 0 where
  pub size : length marks ≡ n
  pub marked : (k : ℕ) (s : Symbol) → s.0 ≡ suc k → k < n
      → (slice_get marks k ≡ Some true) ↔ Contains valid s
