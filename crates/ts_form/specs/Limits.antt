-- The limits of a grammar's normal form: what is counted, when there is too much of it, and which
-- limit is told.
use Rattle.std.specs.Prelude.{◌<◌, ◌⊎◌, length}
use Rattle.std.specs.List.{Contains}
use Rattle.ts_core.specs.declared.flat.FlatGrammar.{FlatGrammar}
use Rattle.ts_core.specs.declared.flat.TokenDef.{TokenDef}
use Rattle.ts_core.specs.declared.limits.Limited.{Limited}
use Rattle.ts_core.specs.declared.rule.Grammar.{Grammar}
use Rattle.spec_tables.specs.Fit as fit
use Rattle.ts_numbering.specs.Limits.{HasManySymbols, HasManyNames}
use Rattle.ts_pattern.specs.Reads.{Reads}
use Rattle.ts_productions.specs.Grammars.{IsCounted}
use Rattle.ts_rules.specs.declared.tree.Alternative.{Alternative}
use Rattle.ts_rules.specs.Alternatives.{Alternatives}
use Rattle.ts_rules.specs.FirstSights.{Not}
use Rattle.ts_rules.specs.Normal.{IsNormal}
use Rattle.ts_rules.specs.Numbers.{Numbers, Lists, AreLists, AreNumbers}
use Rattle.ts_form.specs.declared.fault.FormFault.{FormFault}
use Rattle.ts_form.specs.declared.fault.FormFault.TheVariants as fault

-- ---- what is counted

-- a list of alternatives that is counted for the grammar
pub record Counts (g : Grammar) (all : Alternatives) : Type 0 where
  pub numbers : Numbers
  pub lists : Lists
  pub are_lists : AreLists g lists
  pub are_numbers : AreNumbers g numbers lists
  pub is_counted : IsCounted numbers lists all

-- more productions than a grammar in normal form may have
abbrev pub HasManyProductions : Grammar → Type 0
HasManyProductions g = (all : Alternatives) × Counts g all × (fit.most_productions < length all)

-- steps in one alternative
abbrev pub HasManySteps : Grammar → Type 0
HasManySteps g = (all : Alternatives) × Counts g all × (one : Alternative) × Contains all one
    × (fit.most_steps < length one.steps)

-- of one token, or of all tokens and separators
abbrev pub HasManyPositions : Grammar → Type 0
HasManyPositions g = (f : FlatGrammar) × IsNormal Reads g f
    × (((d : TokenDef) × Contains f.tokens d × (fit.most_positions < fit.positions d.re))
    ⊎ (fit.most_positions_in_all < fit.all_positions f))

-- ---- which limit is told

-- no limit is passed
pub record IsWithinLimits (g : Grammar) : Type 0 where
  pub symbols : Not (HasManySymbols g)
  pub names : Not (HasManyNames g)
  pub productions : Not (HasManyProductions g)
  pub steps : Not (HasManySteps g)
  pub positions : Not (HasManyPositions g)

-- This limit is passed, and none of those before it: first come the symbols, then the names, the
-- productions, the steps and the positions.
abbrev pub IsFirstPassed : Grammar → Limited → Type 0
IsFirstPassed g Limited.File = ⊥
IsFirstPassed g Limited.Rules = ⊥
IsFirstPassed g Limited.Symbols = HasManySymbols g
IsFirstPassed g Limited.Fields = Not (HasManySymbols g) × HasManyNames g
IsFirstPassed g Limited.Productions =
    Not (HasManySymbols g) × Not (HasManyNames g) × HasManyProductions g
IsFirstPassed g Limited.Steps = Not (HasManySymbols g) × Not (HasManyNames g)
    × Not (HasManyProductions g) × HasManySteps g
IsFirstPassed g Limited.Positions = Not (HasManySymbols g) × Not (HasManyNames g)
    × Not (HasManyProductions g) × Not (HasManySteps g) × HasManyPositions g

-- why a grammar has no normal form; running out of memory has no cause
abbrev pub IsFormFault : Grammar → FormFault → Type 0
IsFormFault g (fault.Limit limited) = IsFirstPassed g limited
IsFormFault g fault.Memory = Unit {0}
