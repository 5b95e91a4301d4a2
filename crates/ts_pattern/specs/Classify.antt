-- What ranges have on the way to a set, for private clauses.
use Rattle.std.specs.Prelude.{◌≡◌, ◌↔◌, ℕ, ◌≤◌, Bool, true, false, not, ◌&&◌, ◌||◌, nat_le, List}
use Rattle.ucd_case.specs.CaseFolding.{fold_pairs}
use Rattle.regex_class.specs.Ranges.{in_ranges, in_image}
use Rattle.ts_pattern.specs.Characters.{is_scalar}

-- up to the greatest code, the ranges have just the members of M
abbrev pub Have : List (ℕ × ℕ) → (ℕ → Type 0) → Type 0
Have ranges M = (c : ℕ) → c ≤ 0x10FFFF → (in_ranges ranges c ≡ true) ↔ M c

-- with the flag also what folds like a member
abbrev pub in_folded : Bool → List (ℕ × ℕ) → ℕ → Bool
in_folded false ranges c = in_ranges ranges c
in_folded true ranges c = in_ranges ranges c || in_image fold_pairs ranges c

-- with the flag what is no member
abbrev pub in_inverted : Bool → List (ℕ × ℕ) → ℕ → Bool
in_inverted false ranges c = in_ranges ranges c
in_inverted true ranges c = nat_le c 0x10FFFF && not (in_ranges ranges c)

-- the code is in the ranges, and is a character's
abbrev pub in_characters : List (ℕ × ℕ) → ℕ → Bool
in_characters ranges c = in_ranges ranges c && is_scalar c
