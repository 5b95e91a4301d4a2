-- What falls with each turn of a parse that follows one stack, and several by turns.
use Rattle.std.proofs.Common.{◌≡◌, sym, subst, ℕ, suc, ◌+◌, ◌-◌, ◌*◌, ◌<◌, ◌≤◌, length, Option, Some, None, arith}
use Rattle.std.proofs.Math.Nat.{add-mul, suc-mul, mul-le-mul_left, mul-le-mul_right}
use Rattle.ts_core.specs.declared.flat.FlatGrammar.{FlatGrammar}
use Rattle.spec_grammar.specs.Symbols.{symbol_count}
use Rattle.spec_runs.specs.Configurations.{Configuration, stack_symbols}
use Rattle.ts_table.specs.Ranks.{unit_rank}
use Rattle.ts_steps.specs.Weights.{climb, last_of, config_weight}
use Rattle.ts_glr.specs.Turns.{most_climb, config_climb, turn_weight}

-- more for each byte that is left does not turn the order of two weights
heavier : (left more s b low high : ℕ) → left * s + low ≤ (left + more) * s + high → s ≤ b → left * b + low ≤ (left + more) * b + high
heavier left more s b low high h le =
    let x : (left + more) * s ≡ left * s + more * s = add-mul left more s in
    let y : (left + more) * b ≡ left * b + more * b = add-mul left more b in
    let z : more * s ≤ more * b = mul-le-mul_left more le in
    omega (arith, h, x, y, z)

wide : (size most : ℕ) → most + most ≤ (size + 3) * most
wide size most = let x : (size + 3) * most ≡ size * most + 3 * most = add-mul size 3 most in omega (arith, x)

byte_more : (left right b low high : ℕ) → suc left ≤ right → low < b → left * b + low < right * b + high
byte_more left right b low high more small =
    let x : suc left * b ≤ right * b = mul-le-mul_right b more in
    let y : suc left * b ≡ left * b + b = suc-mul left b in
    omega (arith, small, x, y)

turn_more : (g : FlatGrammar) (size : ℕ) (c d : Configuration) (low high : ℕ) → c.place ≤ d.place
    → (size - d.place) * (symbol_count g + symbol_count g) + low ≤ (size - c.place) * (symbol_count g + symbol_count g) + high
    → (size - d.place) * most_climb g size + low ≤ (size - c.place) * most_climb g size + high
turn_more g size c d low high later w =
    let left : ℕ = size - d.place in
    let more : ℕ = (size - c.place) - (size - d.place) in
    let m : ℕ = symbol_count g + symbol_count g in
    let b : ℕ = most_climb g size in
    let is : size - c.place ≡ (size - d.place) + ((size - c.place) - (size - d.place)) = omega (arith, later) in
    subst (λ (n : ℕ). left * b + low ≤ n * b + high) (sym is)
    (heavier left more m b low high (subst (λ (n : ℕ). left * m + low ≤ n * m + high) is w) (wide size (symbol_count g)))

-- where the place does not go back, what weighs no more does so for turns
pub turn_le : (g : FlatGrammar) (size : ℕ) (c d : Configuration) → c.place ≤ d.place → config_weight g size d ≤ config_weight g size c → turn_weight g size d ≤ turn_weight g size c
turn_le g size c d later w = turn_more g size c d (config_climb g d) (config_climb g c) later w

climb_small : (rank : ℕ → ℕ) (most height size : ℕ) (o : Option ℕ) → ((x : ℕ) → rank x < most) → 0 < most → height ≤ size → climb rank most height o < (size + 3) * most
climb_small rank most height size None ranks some low = let x : (size + 3) * most ≡ size * most + 3 * most = add-mul size 3 most in omega (arith, x, some)
climb_small rank most height size (Some y) ranks some low =
    let x : (size + 3) * most ≡ size * most + 3 * most = add-mul size 3 most in
    let z : height * most ≤ size * most = mul-le-mul_right most low in
    let r : rank y < most = ranks y in
    omega (arith, x, z, r)

-- what ends later, and is no higher than its bytes, weighs less
pub turn_far : (g : FlatGrammar) → ((x : ℕ) → unit_rank g x < symbol_count g) → (size : ℕ) (c d : Configuration) → c.place < d.place → d.place ≤ size → length (stack_symbols d.stack) ≤ d.place → turn_weight g size d < turn_weight g size c
turn_far g ranks size c d far within low =
    byte_more (size - d.place) (size - c.place) (most_climb g size) (config_climb g d) (config_climb g c) (omega (arith, far, within))
    (climb_small (unit_rank g) (symbol_count g) (length (stack_symbols d.stack)) size (last_of (stack_symbols d.stack)) ranks (let r = ranks 0 in omega (arith, r)) (omega (arith, low, within)))
