-- What a builder of regular expressions keeps.
use Rattle.std.specs.Prelude.{ℕ, List}
use Rattle.ts_base.specs.Bytes.{Bytes}
use Rattle.ts_query_syntax.specs.declared.builder.Builder.{Builder}

-- the numbers of the calls that fail
abbrev pub failing_calls : Builder → List ℕ
failing_calls b = b.failing.items

-- the texts of the expressions that were asked for
abbrev pub sources_of : Builder → List Bytes
sources_of b = b.sources.items

-- how many calls were made, which is the next one's number
abbrev pub calls_of : Builder → ℕ
calls_of b = b.calls

-- how many of them were refused
abbrev pub refusals_of : Builder → ℕ
refusals_of b = b.refusals
