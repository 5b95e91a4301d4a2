-- Why a parse that follows one stack, and several by turns, ends: a number that falls with each
-- turn. It serves private clauses and proofs alone.
use Rattle.std.specs.Prelude.{ℕ, ◌+◌, ◌-◌, ◌*◌, length}
use Rattle.ts_core.specs.declared.flat.FlatGrammar.{FlatGrammar}
use Rattle.spec_grammar.specs.Symbols.{symbol_count}
use Rattle.spec_runs.specs.Configurations.{Configuration, stack_symbols}
use Rattle.ts_table.specs.Ranks.{unit_rank}
use Rattle.ts_steps.specs.Weights.{climb, last_of}

-- more than any climb of a stack in a text of so many bytes
abbrev pub most_climb : FlatGrammar → ℕ → ℕ
most_climb g size = (size + 3) * symbol_count g

-- the height of the stack of a configuration, and then the rank of its last symbol
abbrev pub config_climb : FlatGrammar → Configuration → ℕ
config_climb g c =
    climb (unit_rank g) (symbol_count g) (length (stack_symbols c.stack))
    (last_of (stack_symbols c.stack))

-- the bytes left, and then the climb
abbrev pub turn_weight : FlatGrammar → ℕ → Configuration → ℕ
turn_weight g size c = (size - c.place) * most_climb g size + config_climb g c
