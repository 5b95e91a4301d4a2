-- What a normal form is put together of.
use Rattle.std.specs.Prelude.{◌≡◌, ℕ, List, map, slice_get, Option, Some, None, MatchOption, length}
use Rattle.std.specs.Borrow.{Bor}
use Rattle.std.specs.List.{Contains}
use Rattle.ts_base.specs.Bytes.{Bytes}
use Rattle.ts_core.specs.declared.limits.Limited.{Limited}
use Rattle.ts_core.specs.declared.rule.Grammar.{Grammar}
use Rattle.ts_core.specs.declared.rule.Rule.{Rule}
use Rattle.ts_core.specs.declared.symbol.Symbol.{Symbol}
use Rattle.ts_numbering.specs.declared.limits.NumberFault.{NumberFault}
use Rattle.ts_numbering.specs.declared.numbering.Numbering.{Numbering}
use Rattle.ts_numbering.specs.Numberings.{lists_of, numbers_of}
use Rattle.ts_numbering.specs.Surveys.{IsSurvey}
use Rattle.ts_productions.specs.declared.fault.ProductionFault.{ProductionFault}
use Rattle.ts_rules.specs.FirstSights.{Not, Each, Picks}
use Rattle.ts_rules.specs.Normal.{IsExtra, IsTokenExtra}
use Rattle.ts_rules.specs.Numbers.{Numbers, AreLists, AreNumbers}
use Rattle.ts_rules.specs.Sights.{NamedRule}
use Rattle.ts_tokens.specs.declared.definition.NamedToken.{NamedToken}
use Rattle.ts_form.specs.declared.fault.FormFault.{FormFault}
use Rattle.ts_form.specs.declared.fault.FormFault.TheVariants as fault

-- the numbering has the numbers that the grammar's normal form asks for
pub record IsNumbering (g : Grammar) (n : Numbering) : Type 0 where
  pub survey : IsSurvey g n.survey
  pub lists : AreLists g (lists_of n)
  pub numbers : AreNumbers g (numbers_of n) (lists_of n)

-- the symbols of the extras that are tokens, in their order
abbrev pub AreExtraSymbols : Grammar → Numbers → List Symbol → Type 0
AreExtraSymbols g n symbols =
    (trees : List Rule) × Picks (IsTokenExtra g) g.extras trees × Each (IsExtra n) trees symbols

-- ---- faults of what is called

-- the fault of the numbering as a fault of the normal form
abbrev pub of_numbers : NumberFault → FormFault
of_numbers NumberFault.Symbols = fault.Limit Limited.Symbols
of_numbers NumberFault.Names = fault.Limit Limited.Fields
of_numbers NumberFault.Memory = fault.Memory

-- the fault of the productions as a fault of the normal form
abbrev pub of_productions : ProductionFault → FormFault
of_productions ProductionFault.Productions = fault.Limit Limited.Productions
of_productions ProductionFault.Steps = fault.Limit Limited.Steps
of_productions ProductionFault.Memory = fault.Memory

-- ---- while tokens are named; these serve private clauses and proofs alone

-- the names of the tokens, in order
abbrev pub names_in : List NamedToken → List (Option (Bor Bytes))
names_in = map (λ (token : NamedToken). token.name)

-- there is no name
abbrev pub IsNothing : Option (Bor Bytes) → Type 0
IsNothing name = name ≡ None

-- one of these rules, if there is one, has the tree
abbrev pub IsNameOf : List NamedRule → Rule → Option (Bor Bytes) → Type 0
IsNameOf rules tree found = MatchOption found
    ((name : Bytes) → Not (Contains rules (name, tree)))
    (λ name. Contains rules (name.now, tree))

-- beside each token stands one of these rules that has its tree
pub record AreNamesOf (rules : List NamedRule) (tokens : List Rule)
    (names : List (Option (Bor Bytes))) : Type 0 where
  pub count : length names ≡ length tokens
  pub each : (k : ℕ) (tree : Rule) (name : Option (Bor Bytes)) → slice_get tokens k ≡ Some tree
      → slice_get names k ≡ Some name → IsNameOf rules tree name
