-- The numbers of supertypes, as the code has them. Serves private clauses and proofs alone.
use Rattle.std.specs.Prelude.{◌≡◌, ◌↔◌, ℕ, List, IsTrue}
use Rattle.std.specs.Ordering.{nat_cmp}
use Rattle.std.specs.BTreeSet.{BTreeSet, contains}
use Rattle.std.specs.List.{Contains}
use Rattle.ts_base.specs.Bytes.{Bytes}
use Rattle.ts_core.specs.declared.rule.Grammar.{Grammar}
use Rattle.ts_rules.specs.FirstSights.{Not}
use Rattle.ts_rules.specs.Numbers.{Numbers, IsInlined}

-- the number of one of the names that is not inlined
abbrev pub IsNumberAmong : Grammar → Numbers → List Bytes → ℕ → Type 0
IsNumberAmong g n names number =
    (name : Bytes) × Contains names name × Not (IsInlined g name) × (number ≡ n.rule name)

-- the set has the numbers of the names that are not inlined
abbrev pub AreSupertypes : Grammar → Numbers → List Bytes → BTreeSet ℕ → Type 0
AreSupertypes g n names numbers =
    (number : ℕ) → IsTrue (contains nat_cmp numbers number) ↔ IsNumberAmong g n names number
