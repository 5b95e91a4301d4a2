-- The powers of a list fall where one weight gives way to few lighter ones.
use Rattle.std.proofs.Common.{◌≡◌, ℕ, ◌+◌, ◌*◌, ◌^◌, ◌<◌, ◌≤◌, zero, suc, List, [], ◌∷◌, ◌++◌, length, arith}
use Rattle.std.proofs.Math.Nat.{mul-le-mul_right, suc-mul, pow-le-pow_right, pow-suc, one-le-pow}
use Rattle.ts_glr.specs.Lists.{OfEach}
use Rattle.ts_glr.specs.Weights.{powers}

pub powers_append : (base : ℕ) (vs ws : List ℕ) → powers base (vs ++ ws) ≡ powers base vs + powers base ws
powers_append base [] ws = omega arith
powers_append base (v ∷ vs) ws = omega (arith, powers_append base vs ws)

powers_le : (base w : ℕ) (vs : List ℕ) → 0 < base → OfEach (λ (v : ℕ). v ≤ w) vs → powers base vs ≤ length vs * base ^ w
powers_le base w [] pos all = omega arith
powers_le base w (v ∷ vs) pos all =
    let first : base ^ v ≤ base ^ w = pow-le-pow_right pos all.0 in
    let rest : powers base vs ≤ length vs * base ^ w = powers_le base w vs pos all.1 in
    let more : suc (length vs) * base ^ w ≡ length vs * base ^ w + base ^ w = suc-mul (length vs) (base ^ w) in
    omega arith

-- few lighter weights come to less than one
pub powers_fall : (base w : ℕ) (vs : List ℕ) → length vs < base → OfEach (λ (v : ℕ). v < w) vs → powers base vs < base ^ w
powers_fall base zero [] lt all = omega (arith, one-le-pow 0 base (omega arith))
powers_fall base zero (v ∷ vs) lt all = let no : v < 0 = all.0 in absurd (omega arith)
powers_fall base (suc w) vs lt all =
    let each : powers base vs ≤ length vs * base ^ w = powers_le base w vs (omega arith) (lower w vs all) in
    let some : 0 < base ^ w = omega (arith, one-le-pow w base (omega arith)) in
    let one : suc (length vs) * base ^ w ≡ length vs * base ^ w + base ^ w = suc-mul (length vs) (base ^ w) in
    let far : suc (length vs) * base ^ w ≤ base * base ^ w = mul-le-mul_right (base ^ w) (omega arith) in
    let up : base ^ suc w ≡ base ^ w * base = pow-suc base w in
    let turn : base ^ w * base ≡ base * base ^ w = omega arith in
    omega arith
  where
    lower : (w : ℕ) (vs : List ℕ) → OfEach (λ (v : ℕ). v < suc w) vs → OfEach (λ (v : ℕ). v ≤ w) vs
    lower w [] all = tt
    lower w (v ∷ vs) all = (let h : v < suc w = all.0 in omega arith, lower w vs all.1)
