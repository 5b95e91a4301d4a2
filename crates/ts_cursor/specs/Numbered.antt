-- The steps of productions by their numbers, and the numbers of the first productions of rules.
use Rattle.std.specs.Prelude.{◌≡◌, ℕ, List, length, map, take, slice_get, Some}
use Rattle.std.specs.List.{flat_map}
use Rattle.ts_core.specs.declared.flat.Step.{Step}
use Rattle.ts_core.specs.declared.flat.FlatRule.{FlatRule}
use Rattle.ts_core.specs.declared.flat.FlatGrammar.{FlatGrammar}
use Rattle.spec_grammar.specs.Symbols.{count_productions}

-- the steps of each production of a rule
abbrev pub rule_steps : FlatRule → List (List Step)
rule_steps rule = map (λ production. production.steps) rule.productions

-- for each of some rules the number of its first production
abbrev pub AreFirstProductions : List FlatRule → List ℕ → Type 0
AreFirstProductions rules firsts =
    (k n : ℕ) → slice_get firsts k ≡ Some n → n ≡ count_productions (take k rules)

-- the first numbers of all rules, and the steps of all productions
pub record AreNumbered (g : FlatGrammar) (firsts : List ℕ) (steps : List (List Step)) : Type 0 where
  pub many : length firsts ≡ length g.rules
  pub each : AreFirstProductions g.rules firsts
  pub all : steps ≡ flat_map rule_steps g.rules
