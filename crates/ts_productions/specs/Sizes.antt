-- How many expansions alternatives have, and how long the longest is. Serves private clauses and
-- proofs alone.
use Rattle.std.specs.Prelude.{◌≡◌, ℕ, zero, suc, ◌+◌, ◌*◌, ◌≤◌, min, max, List, [], ◌∷◌, map, length, slice_get, Some, All, ◌⊎◌, ◌≢◌}
use Rattle.std.specs.List.{Contains}
use Rattle.ts_rules.specs.declared.size.Size.{Size}
use Rattle.ts_rules.specs.declared.tree.NumberedStep.{NumberedStep}
use Rattle.ts_rules.specs.declared.tree.Alternative.{Alternative}
use Rattle.ts_rules.specs.Alternatives.{Alternatives, sequence, longest_of}
use Rattle.ts_rules.specs.Counts.{many, long}
use Rattle.ts_productions.specs.declared.weights.Weights.{Weights}
use Rattle.ts_productions.specs.declared.rules.Verdict.{Verdict}
use Rattle.ts_productions.specs.declared.spread.Inlined.{Inlined}
use Rattle.spec_tables.specs.Fit.{most_productions, most_steps}
use Rattle.ts_productions.specs.declared.measure.Measure.{Measure}
use Rattle.ts_productions.specs.Expansions.{Expansions, Table, by_option, plain, entry_at, IsFull}
use Rattle.ts_productions.specs.declared.sources.Sources.{Sources}
use Rattle.ts_productions.specs.Roots.{inlined_at}

-- ---- what a symbol weighs

-- the size of a symbol that stays: one expansion of one step
abbrev pub one_step : Size
one_step = record { many = 1; longest = 1 }

-- the size of a symbol: the one of its place, or that of one step
abbrev pub size_at : Weights → ℕ → Size
size_at w symbol = by_option (entry_at w.first w.sizes.now symbol) one_step (λ (size : Size). size)

-- how many expansions a symbol has by the weights
abbrev pub many_of : Weights → ℕ → ℕ
many_of w symbol = (size_at w symbol).many

-- how long the longest expansion of a symbol is by the weights
abbrev pub longest_by : Weights → ℕ → ℕ
longest_by w symbol = (size_at w symbol).longest

-- the most steps of one of the expansions
abbrev pub longest_in : Expansions → ℕ
longest_in found = longest_of (map plain found)

-- the same by the expansions themselves
abbrev pub count_in : Table → ℕ → ℕ
count_in F symbol = by_option (F symbol) 1 (λ (found : Expansions). length found)

-- the most steps of one of a symbol's expansions; a symbol that stays has 1
abbrev pub length_in : Table → ℕ → ℕ
length_in F symbol = by_option (F symbol) 1 longest_in

-- ---- what steps weigh

-- how many expansions there are
abbrev pub weigh : (ℕ → ℕ) → List NumberedStep → ℕ
weigh W [] = 1
weigh W (step ∷ steps) = W step.symbol * weigh W steps

-- how long the longest is, where there is one
abbrev pub span : (ℕ → ℕ) → List NumberedStep → ℕ
span L [] = 0
span L (step ∷ steps) = L step.symbol + span L steps

-- the length, where the count is not 0, and else 0
abbrev pub tall : ℕ → ℕ → ℕ
tall zero length = 0
tall (suc count) length = length

-- 1 where there is no step, and else 0
abbrev pub blank_of : List NumberedStep → ℕ
blank_of [] = 1
blank_of (step ∷ steps) = 0

-- how many expansions there are of steps, and 0 where there is no step
abbrev pub filled_of : (ℕ → ℕ) → List NumberedStep → ℕ
filled_of W [] = 0
filled_of W (step ∷ steps) = W step.symbol * weigh W steps

-- ---- what alternatives weigh

-- how many expansions alternatives have together
abbrev pub total : (ℕ → ℕ) → Alternatives → ℕ
total W [] = 0
total W (x ∷ xs) = weigh W x.steps + total W xs

-- how many of the alternatives have no step
abbrev pub blanks : Alternatives → ℕ
blanks [] = 0
blanks (x ∷ xs) = blank_of x.steps + blanks xs

-- how many expansions those with a step have together
abbrev pub heavy : (ℕ → ℕ) → Alternatives → ℕ
heavy W [] = 0
heavy W (x ∷ xs) = filled_of W x.steps + heavy W xs

-- how long the longest expansion of one of the alternatives is, and 0 where there is none
abbrev pub reach : (ℕ → ℕ) → (ℕ → ℕ) → Alternatives → ℕ
reach W L [] = 0
reach W L (x ∷ xs) = max (tall (weigh W x.steps) (span L x.steps)) (reach W L xs)

-- what `reach` is of each list, added up
abbrev pub reach_together : (ℕ → ℕ) → (ℕ → ℕ) → List Alternatives → ℕ
reach_together W L [] = 0
reach_together W L (xs ∷ rest) = reach W L xs + reach_together W L rest

-- ---- what the code counts

-- blank alternatives, expansions of the others, and the longest length, each up to its bound
pub record IsMeasure (w : Weights) (xs : Alternatives) (m : Measure) : Type 0 where
  pub blank : m.blank ≡ min many (blanks xs)
  pub filled : m.filled ≡ min many (heavy (many_of w) xs)
  pub longest : m.longest ≡ min long (reach (many_of w) (longest_by w) xs)

-- the counts of all joins, and how long the longest of each are together
pub record IsJoined (w : Weights) (parts : List Alternatives) (m : Measure) : Type 0 where
  pub blank : m.blank ≡ min many (blanks (sequence parts))
  pub filled : m.filled ≡ min many (heavy (many_of w) (sequence parts))
  pub longest : m.longest ≡ min long (reach_together (many_of w) (longest_by w) parts)

-- none of the three is above its bound
abbrev pub IsSmallMeasure : Measure → Type 0
IsSmallMeasure m = (m.blank ≤ many) × (m.filled ≤ many) × (m.longest ≤ long)

-- how many expansions alternatives have, and how long the longest is, each up to its bound
pub record IsSizeBy (w : Weights) (xs : Alternatives) (size : Size) : Type 0 where
  pub many : size.many ≡ min many (total (many_of w) xs)
  pub longest : size.longest ≡ min long (reach (many_of w) (longest_by w) xs)

-- neither of the two is above its bound
abbrev pub IsSmallSize : Size → Type 0
IsSmallSize size = (size.many ≤ many) × (size.longest ≤ long)

-- the size tells of the expansions, up to the bounds
pub record IsSizeOf (found : Expansions) (size : Size) : Type 0 where
  pub many : size.many ≡ min many (length found)
  pub longest : size.longest ≡ min long (longest_in found)

-- the symbol weighs what it has, up to the bounds
abbrev pub IsWeighed : Table → Weights → ℕ → Type 0
IsWeighed F w symbol = (many_of w symbol ≡ min many (count_in F symbol))
    × (longest_by w symbol ≡ min long (length_in F symbol))

-- For proofs alone: so does the symbol of each step of the alternatives
abbrev pub AllAgree : Table → Weights → Alternatives → Type 0
AllAgree F w =
    All (λ (x : Alternative). All (λ (step : NumberedStep). IsWeighed F w step.symbol) x.steps)

-- the sizes of the inlined rules whose places are told
pub record SizesHold (s : Sources) (done : List ℕ) (sizes : List Size) : Type 0 where
  pub one_each : length sizes ≡ length s.inlined.now
  pub tell : (F : Table) (k : ℕ) (found : Expansions) → IsFull (inlined_at s) F
      → Contains done k → F (s.first_inlined + k) ≡ Some found
      → (size : Size) × (slice_get sizes k ≡ Some size) × IsSizeOf found size

-- ---- the expansions that are built

-- the weights that are known beside the expansions that are built
abbrev pub weights_of : Inlined → Weights
weights_of t = record { first = t.first; sizes = t.sizes }

-- what comes in place of a symbol
abbrev pub look : Inlined → Table
look t = entry_at t.first t.full.now

-- the alternative's steps weigh what they have, and where it has expansions those of its steps are
-- built
pub record IsUsable (F : Table) (t : Inlined) (x : Alternative) : Type 0 where
  pub agree : All (λ (step : NumberedStep). IsWeighed F (weights_of t) step.symbol) x.steps
  pub built : 1 ≤ weigh (count_in F) x.steps
      → All (λ (step : NumberedStep). F step.symbol ≡ look t step.symbol) x.steps

-- the expansions are few enough, and each is short enough
abbrev pub AreWithin : Expansions → Type 0
AreWithin found = (length found ≤ most_productions) × (longest_in found ≤ most_steps)

-- the expansions of the inlined rules whose places are told, as far as they are within the limits
pub record FullHold (s : Sources) (done : List ℕ) (full : List Expansions) : Type 0 where
  pub one_each : length full ≡ length s.inlined.now
  pub tell : (F : Table) (k : ℕ) (found : Expansions) → IsFull (inlined_at s) F
      → Contains done k → F (s.first_inlined + k) ≡ Some found → AreWithin found
      → slice_get full k ≡ Some found

-- ---- the limits

-- a size at a bound, before inlining or after it, passes a limit; that of counts is told first
abbrev pub JudgesSize : Size → Size → Verdict → Type 0
JudgesSize before after Verdict.Many = (before.many ≡ many) ⊎ (after.many ≡ many)
JudgesSize before after Verdict.Long = (before.many ≢ many) × (after.many ≢ many)
    × ((before.longest ≡ long) ⊎ (after.longest ≡ long))
JudgesSize before after Verdict.Fits = (before.many ≢ many) × (after.many ≢ many)
    × (before.longest ≢ long) × (after.longest ≢ long)
