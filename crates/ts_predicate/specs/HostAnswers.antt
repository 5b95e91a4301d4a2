-- What a call answers for the predicates of a host.
use Rattle.std.specs.Prelude.{ℕ, ◌<◌, ◌↔◌, Bool, IsTrue}
use Rattle.ts_base.specs.Bytes.{Bytes}

-- For each number below a count and each text the call may be made, and it answers true exactly
-- where the relation holds.
pub record AnswersRule (May : ℕ → Bytes → Type 0) (Gives : ℕ → Bytes → Bool → Type 0)
    (Accepts : ℕ → Bytes → Type 0) (count : ℕ) : Type 0 where
  pub callable : (number : ℕ) (text : Bytes) → number < count → May number text
  pub answers : (number : ℕ) (text : Bytes) (answer : Bool) → number < count
      → Gives number text answer → IsTrue answer ↔ Accepts number text
