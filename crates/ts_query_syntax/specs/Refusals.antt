-- How a count of refusals rises.
use Rattle.std.specs.Prelude.{◌≡◌, ℕ, ◌+◌, ◌-◌, ◌^◌, ◌≤◌, min}
use Rattle.ts_base.specs.Bytes.{Bytes}
use Rattle.regex.specs.Strings.{regex_source, regex_config, IsReadFromSource}
use Rattle.regex.specs.Patterns.{default_config}
use Rattle.regex.specs.declared.string.regex.Regex.{Regex}

-- the next count, which stays at the last value of a u64
abbrev pub next_count : ℕ → ℕ
next_count count = min (count + 1) (2 ^ 64 - 1)

-- The count has risen. One that stands at the last value counts as risen.
abbrev pub HasRisen : ℕ → ℕ → Type 0
HasRisen before now = next_count before ≤ now

-- the expression is what the grammar of regular expressions reads in the text
pub record IsBuiltFrom (text : Bytes) (search : Regex) : Type 0 where
  pub source : regex_source search ≡ text
  pub config : regex_config search ≡ default_config
  pub read : IsReadFromSource search
