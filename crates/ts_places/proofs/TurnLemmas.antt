-- The keys of one rank that come after others, by where they begin.
use Rattle.std.proofs.Common.{◌≡◌, sym, subst, ℕ, ◌-◌, ◌*◌, ◌^◌, ◌/◌, ◌<◌, ◌≤◌, ◌↔◌, arith}
use Rattle.std.proofs.Math.Nat.{le-div_iff_mul-le}
use Rattle.ts_places.specs.Turns.{turn_of}

-- none does, where the rank alone is past the turn
pub none_late : (below rank : ℕ) → below ≤ rank → (begins : ℕ) → turn_of begins rank < below → ⊥
none_late below rank low begins late = omega (arith, low, late)

-- and else all up to one do
pub up_to : (below rank most : ℕ) → rank < below → most ≡ (below - 1 - rank) / 2 ^ 32 → (begins : ℕ) → (turn_of begins rank < below) ↔ (begins ≤ most)
up_to below rank most low is begins = (there, back)
  where
    fits : (begins ≤ (below - 1 - rank) / 2 ^ 32) ↔ (begins * 2 ^ 32 ≤ below - 1 - rank)
    fits = le-div_iff_mul-le (omega arith)

    there : turn_of begins rank < below → begins ≤ most
    there late = subst (λ (n : ℕ). begins ≤ n) (sym is) (fits.1 (omega (arith, low, late)))

    back : begins ≤ most → turn_of begins rank < below
    back few = let all = fits.0 (subst (λ (n : ℕ). begins ≤ n) is few) in omega (arith, low, all)
