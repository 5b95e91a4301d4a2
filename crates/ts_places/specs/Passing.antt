-- From one place to the next.
use Rattle.std.specs.Prelude.{ℕ}
use Rattle.spec_graph.specs.Keys.{Key}

-- the key before all others of a place, where all ranks are below the bound
abbrev pub first_key : ℕ → ℕ → Key
first_key most look = record { look = look; begins = look; rank = most }
