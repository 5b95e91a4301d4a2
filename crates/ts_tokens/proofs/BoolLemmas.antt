-- Tests that are joined.
use Rattle.std.proofs.Common.{◌≡◌, ◌∙◌, sym, refl, ◌⊎◌, inl, inr, ⊎_elim, Bool, true, false, IsTrue, ◌↔◌}

-- where the first test failed, the second decides
pub either_second : (P Q : Type 0) (a b : Bool) → a ≡ false → IsTrue a ↔ P → IsTrue b ↔ Q → IsTrue b ↔ (P ⊎ Q)
either_second P Q a b failed first second = (
  λ t. inr (second.0 t),
  ⊎_elim (λ p. absurd (let e : true ≡ false = sym (first.1 p) ∙ failed in cc)) (λ q. second.1 q),
)

pub both_ways : (P Q R : Type 0) → P ↔ Q → Q ↔ R → P ↔ R
both_ways P Q R f g = (λ p. g.0 (f.0 p), λ r. f.1 (g.1 r))
