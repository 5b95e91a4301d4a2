-- The limits of a pattern.
use Rattle.std.specs.Prelude.{ℕ, ◌+◌, min}

-- how deep groups may nest
abbrev pub most_nested : ℕ
most_nested = 200

-- the greatest count of a quantifier
abbrev pub most_counted : ℕ
most_counted = 65535

-- how many positions there may be
abbrev pub most_positions : ℕ
most_positions = 8192

-- a depth of groups that stops one above its limit, for private clauses
abbrev pub stopped_nesting : ℕ → ℕ
stopped_nesting n = min (most_nested + 1) n

-- a count of positions that stops one above its limit, for private clauses
abbrev pub stopped_positions : ℕ → ℕ
stopped_positions n = min (most_positions + 1) n
