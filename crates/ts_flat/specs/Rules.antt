-- The rules of a normal form: those of the file, and the repetitions.
use Rattle.std.specs.Prelude.{◌≡◌, ◌++◌, List}
use Rattle.ts_core.specs.declared.flat.FlatRule.{FlatRule}
use Rattle.ts_core.specs.declared.rule.Grammar.{Grammar}
use Rattle.ts_rules.specs.FirstSights.{Each}
use Rattle.ts_rules.specs.Normal.{IsOwnRule, IsRepetition}
use Rattle.ts_rules.specs.Numbers.{Numbers, Lists}

-- the rules of the file that have symbols, and then one rule for each repetition
pub record AreFlatRules (g : Grammar) (n : Numbers) (x : Lists) (rules : List FlatRule)
    : Type 0 where
  pub own : List FlatRule
  pub repetitions : List FlatRule
  pub is : rules ≡ own ++ repetitions
  pub are_own : Each (IsOwnRule g n x) x.rules own
  pub are_repetitions : Each (IsRepetition g n x) x.contents repetitions
