-- Why a parse ends: a number of a stack that falls with each step. It serves proofs, also those of
-- the parser of all readings.
use Rattle.std.specs.Prelude.{ℕ, ◌+◌, ◌-◌, ◌*◌, List, [], ◌∷◌, length, Option, Some, None}
use Rattle.ts_core.specs.declared.flat.FlatGrammar.{FlatGrammar}
use Rattle.spec_grammar.specs.Symbols.{symbol_count}
use Rattle.spec_runs.specs.Configurations.{Configuration, stack_symbols}
use Rattle.ts_table.specs.Ranks.{unit_rank}

-- the height of a list of symbols, and then the rank of the last one. The empty list counts as two.
abbrev pub climb : (ℕ → ℕ) → ℕ → ℕ → Option ℕ → ℕ
climb rank most height None = most + most
climb rank most height (Some x) = height * most + rank x

-- the bytes left, then the height, then the rank
abbrev pub weight : (ℕ → ℕ) → ℕ → ℕ → ℕ → Option ℕ → ℕ
weight rank most left height last = left * (most + most) + climb rank most height last

-- the symbol that was read last
abbrev pub last_of : List ℕ → Option ℕ
last_of [] = None
last_of (x ∷ read) = Some x

-- the weight of a list of symbols, with so many bytes left
abbrev pub weight_of : (ℕ → ℕ) → ℕ → ℕ → List ℕ → ℕ
weight_of rank most left read = weight rank most left (length read) (last_of read)

-- the weight of a configuration in a text of so many bytes
abbrev pub config_weight : FlatGrammar → ℕ → Configuration → ℕ
config_weight g size c =
    weight_of (unit_rank g) (symbol_count g) (size - c.place) (stack_symbols c.stack)
