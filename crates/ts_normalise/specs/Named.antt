-- The names of rules that name a token, as the code lists them. They serve private clauses and
-- proofs alone.
use Rattle.std.specs.Prelude.{◌↔◌, List}
use Rattle.std.specs.List.{Contains}
use Rattle.ts_base.specs.Bytes.{Bytes}
use Rattle.ts_core.specs.declared.rule.Grammar.{Grammar}
use Rattle.ts_rules.specs.Causes.{names_of}
use Rattle.ts_rules.specs.Numbers.{NamesSome}
use Rattle.ts_rules.specs.Sights.{NamedRule}

-- these are the names of those rules that name a token
abbrev pub AreNamedAmong : Grammar → List NamedRule → List Bytes → Type 0
AreNamedAmong g rules names =
    (name : Bytes) → Contains names name ↔ (Contains (names_of rules) name × NamesSome g name)
