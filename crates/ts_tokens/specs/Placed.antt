-- Patterns with their places, as the code has them. They serve private clauses and proofs alone.
use Rattle.std.specs.Prelude.{List, [], ◌∷◌, map, Option, Some, None}
use Rattle.std.specs.Borrow.{Bor}
use Rattle.ts_base.specs.Bytes.{Bytes}
use Rattle.ts_rules.specs.Sights.{Source as PatternSource}
use Rattle.ts_tokens.specs.declared.placed.Source.{Source}
use Rattle.ts_tokens.specs.declared.placed.Placed.{Placed}
use Rattle.ts_tokens.specs.Patterns.{PlacedPattern, placed}

-- the name, or the empty one
abbrev pub name_told : Option (Bor Bytes) → Bytes
name_told (Some name) = name.now
name_told None = []

-- a pattern's source, and whether it has the flag i
abbrev pub source_told : Source → PatternSource
source_told source = (source.text.now, source.ignore_case)

-- the same, where there is one
abbrev pub told_source : Option Source → List PatternSource
told_source (Some source) = source_told source ∷ []
told_source None = []

-- a pattern, and the name of the rule in which it stands
abbrev pub placed_told : Placed → PlacedPattern
placed_told p = placed (name_told p.rule) (source_told p.source)

-- all of them, in order
abbrev pub told_patterns : List Placed → List PlacedPattern
told_patterns = map placed_told
