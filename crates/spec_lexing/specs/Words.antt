-- Regular expressions in a small form, where a list of parts is made of two at a time; their words,
-- and the fronts of their words. A word is a list of characters, each by its number.
use Rattle.std.specs.Prelude.{◌≡◌, ℕ, ◌≤◌, ◌<◌, zero, suc, ◌⊎◌, List, [], ◌∷◌, ◌++◌}
use Rattle.std.specs.Prelude.{Option, Some, None, Any}
use Rattle.ts_core.specs.declared.re.Re.{Re}
use Rattle.ts_core.specs.declared.re.Re.TheOpen.{Re-F}
use Rattle.ts_core.specs.declared.re.Re.TheFolds.{fold-Re}

-- a regular expression: the empty list, nothing at all, one character of some ranges, two
-- expressions one after the other, either of two, or one from the least to the most times, or
-- without end
pub data Regular : Type 0 where
  empty : Regular
  never : Regular
  one_of : List (ℕ × ℕ) → Regular
  both : Regular → Regular → Regular
  either : Regular → Regular → Regular
  repeat : Regular → ℕ → Option ℕ → Regular

-- all the expressions one after another
abbrev pub all_of : List Regular → Regular
all_of [] = empty
all_of (p ∷ ps) = both p (all_of ps)

-- one of the expressions
abbrev pub any_of : List Regular → Regular
any_of [] = never
any_of (p ∷ ps) = either p (any_of ps)

-- the small form of an expression whose parts have theirs
abbrev pub regular_step : Re-F Regular → Regular
regular_step Re-F.Empty = empty
regular_step (Re-F.Set ranges) = one_of ranges
regular_step (Re-F.Cat ps) = all_of ps
regular_step (Re-F.Alt ps) = any_of ps
regular_step (Re-F.Repeat p least most) = repeat p least most

-- the small form of an expression
abbrev pub regular_of : Re → Regular
regular_of = fold-Re Regular regular_step

-- the character is in one of the ranges, whose ends belong to them
abbrev pub IsInRanges : List (ℕ × ℕ) → ℕ → Type 0
IsInRanges ranges c = Any (λ range. (range.0 ≤ c) × (c ≤ range.1)) ranges

-- so many lists with the property, one after another
abbrev pub Times : (List ℕ → Type 0) → ℕ → List ℕ → Type 0
Times X zero w = w ≡ []
Times X (suc k) w = (u : List ℕ) × (v : List ℕ) × (w ≡ u ++ v) × X u × Times X k v

-- no more than the most, if there is a most
abbrev pub AtMost : ℕ → Option ℕ → Type 0
AtMost k None = Unit {0}
AtMost k (Some most) = k ≤ most

-- fewer than the most, if there is a most
abbrev pub Below : ℕ → Option ℕ → Type 0
Below k None = Unit {0}
Below k (Some most) = k < most

-- the list of characters is a word of the expression
abbrev pub Word : Regular → List ℕ → Type 0
Word empty w = w ≡ []
Word never w = ⊥
Word (one_of ranges) w = (c : ℕ) × (w ≡ c ∷ []) × IsInRanges ranges c
Word (both p q) w = (u : List ℕ) × (v : List ℕ) × (w ≡ u ++ v) × Word p u × Word q v
Word (either p q) w = Word p w ⊎ Word q w
Word (repeat p least most) w = (k : ℕ) × (least ≤ k) × AtMost k most × Times (Word p) k w

-- the list of characters can be read as the beginning of a word, also where no word comes of it:
-- the empty list, a member, words of the parts before and a front of the next, or fewer words than
-- the most and a front of one more
abbrev pub Front : Regular → List ℕ → Type 0
Front empty w = w ≡ []
Front never w = w ≡ []
Front (one_of ranges) w = (w ≡ []) ⊎ ((c : ℕ) × (w ≡ c ∷ []) × IsInRanges ranges c)
Front (both p q) w =
    Front p w ⊎ ((u : List ℕ) × (v : List ℕ) × (w ≡ u ++ v) × Word p u × Front q v)
Front (either p q) w = Front p w ⊎ Front q w
Front (repeat p least most) w =
    (w ≡ []) ⊎ ((k : ℕ) × Below k most × (u : List ℕ) × (v : List ℕ) × (w ≡ u ++ v)
    × Times (Word p) k u × Front p v)
