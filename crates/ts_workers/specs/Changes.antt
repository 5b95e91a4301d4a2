-- Elements of a list that change one after the other.
use Rattle.std.specs.Prelude.{◌≡◌, ℕ, ◌≤◌, List, length, slice_get, Some}

-- the first elements, as many as there are results, changed so, each with its result, and the
-- others stayed as they were
pub record Changed {X D : Type 0} (R : ℕ → X → X → D → Type 0) (old new : List X)
    (results : List D) : Type 0 where
  pub count : length new ≡ length old
  pub each : (place : ℕ) (o n : X) (d : D) → slice_get old place ≡ Some o
      → slice_get new place ≡ Some n → slice_get results place ≡ Some d → R place o n d
  pub rest : (place : ℕ) → length results ≤ place → slice_get new place ≡ slice_get old place
