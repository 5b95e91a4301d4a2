-- Lists of entries whose turns rise, and lists of turns.
use Rattle.std.specs.Prelude.{◌≡◌, ℕ, ◌+◌, ◌<◌, ◌≤◌, ◌^◌, ◌==◌, nat_lt, if◌then◌else◌, List, [], ◌∷◌, ◌++◌}
use Rattle.ts_shelf.specs.declared.journal.Entry.{Entry}

-- how many turns a shelf has
abbrev pub most_turns : ℕ
most_turns = 2 ^ 62

-- how often the turn x stands in the list
abbrev pub occurrences : ℕ → List ℕ → ℕ
occurrences x [] = 0
occurrences x (y ∷ ys) = (if x == y then 1 else 0) + occurrences x ys

-- how often x stands among the turns below t, each taken once
abbrev pub once_below : ℕ → ℕ → ℕ
once_below x t = if nat_lt x t then 1 else 0

module _ {I : Type 0} where
  -- the turns of the entries rise, from the one number on and below the other
  abbrev pub RisesWithin : ℕ → ℕ → List (Entry I) → Type 0
  RisesWithin low high [] = low ≤ high
  RisesWithin low high (e ∷ es) = (low ≤ e.turn) × (e.turn < high)
      × RisesWithin (e.turn + 1) high es

  -- what was seen is a prefix, and the turns of the rest rise from the one number on and below the
  -- other
  abbrev pub Extends : ℕ → ℕ → List (Entry I) → List (Entry I) → Type 0
  Extends low high all seen = (rest : List (Entry I)) × (all ≡ seen ++ rest)
      × RisesWithin low high rest
