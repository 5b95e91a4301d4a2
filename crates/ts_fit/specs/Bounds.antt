-- Bounds at which counts stop.
use Rattle.std.specs.Prelude.{ℕ}

-- of the positions of tokens and separators: one more than the most of all
abbrev pub many_positions : ℕ
many_positions = 65537
