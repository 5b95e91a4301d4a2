-- Bounds at which counts stop, each one more than a limit.
use Rattle.std.specs.Prelude.{ℕ}

-- of the alternatives of a grammar: one more than the most productions
abbrev pub many : ℕ
many = 65536

-- of the steps of an alternative: one more than the most steps
abbrev pub long : ℕ
long = 256
