-- Bounds of the numbers of symbols and names.
use Rattle.std.specs.Prelude.{ℕ, ◌+◌, ◌<◌, ◌⊎◌, length}
use Rattle.ts_core.specs.declared.rule.Grammar.{Grammar}
use Rattle.spec_tables.specs.Fit.{most_symbols, most_names}
use Rattle.ts_rules.specs.Numbers.{Lists, AreLists, first_inlined}

-- one more than the greatest number that a symbol or a name can have
abbrev pub most_numbers : ℕ
most_numbers = 65536

-- how many symbols there are with so many tokens, rules and repetitions, the end among them
abbrev pub count_with_end : ℕ → ℕ → ℕ → ℕ
count_with_end tokens rules contents = 1 + tokens + rules + contents

-- a grammar has more symbols than may be, the end among them
abbrev pub HasManySymbols : Grammar → Type 0
HasManySymbols g = (x : Lists) × AreLists g x × (most_symbols < first_inlined x)

-- a grammar has more field names, or more precedence names, than may be
abbrev pub HasManyNames : Grammar → Type 0
HasManyNames g = (x : Lists) × AreLists g x
    × ((most_names < length x.fields) ⊎ (most_names < length x.precs))
