-- What holds of each grammar that a grammar file gives.
use Rattle.std.specs.Prelude.{◌≡◌, ℕ, ◌≤◌, List, [], length, slice_get, Option, Some, None, All}
use Rattle.ts_base.specs.Bytes.{Bytes}
use Rattle.ts_core.specs.declared.rule.PrecValue.{PrecValue}
use Rattle.ts_core.specs.declared.rule.Ranked.{Ranked}
use Rattle.ts_core.specs.declared.rule.Rule.{Rule}
use Rattle.ts_core.specs.declared.rule.Rule.TheOpen.{Rule-F}
use Rattle.ts_core.specs.declared.rule.Rule.TheViews.{out-Rule}
use Rattle.ts_core.specs.declared.rule.Grammar.{Grammar}
use Rattle.ts_rules.specs.FirstSights.{Not}
use Rattle.spec_tables.specs.Fit.{IsShort, AreShort}
use Rattle.ts_rules.specs.Sights.{NamedRule, Sight, walk}

-- the most rules of a grammar file
abbrev pub most_rules : ℕ
most_rules = 4096

-- the name of a precedence is short, if it has one
abbrev pub HasShortName : PrecValue → Type 0
HasShortName (PrecValue.Number value) = Unit {0}
HasShortName (PrecValue.Name name) = IsShort name

-- a rule type's own texts and lists are short, and a CHOICE has a branch
abbrev pub IsSmallLayer : Rule-F Rule → Type 0
IsSmallLayer Rule-F.Blank = Unit {0}
IsSmallLayer (Rule-F.Literal text) = IsShort text
IsSmallLayer (Rule-F.Pattern value ignore_case) = IsShort value
IsSmallLayer (Rule-F.Symbol name) = IsShort name
IsSmallLayer (Rule-F.Seq members) = IsShort members
IsSmallLayer (Rule-F.Choice members) = IsShort members × Not (members ≡ [])
IsSmallLayer (Rule-F.Repeat content) = Unit {0}
IsSmallLayer (Rule-F.Repeat1 content) = Unit {0}
IsSmallLayer (Rule-F.Token content) = Unit {0}
IsSmallLayer (Rule-F.ImmediateToken content) = Unit {0}
IsSmallLayer (Rule-F.Field name content) = IsShort name
IsSmallLayer (Rule-F.Alias content named value) = IsShort value
IsSmallLayer (Rule-F.Prec value content) = HasShortName value
IsSmallLayer (Rule-F.PrecLeft value content) = HasShortName value
IsSmallLayer (Rule-F.PrecRight value content) = HasShortName value
IsSmallLayer (Rule-F.PrecDynamic value content) = Unit {0}

-- so it is with the type of a tree that is seen
abbrev pub IsSmallSight : Sight → Type 0
IsSmallSight sight = IsSmallLayer (out-Rule sight.tree)

-- the name in an entry of an ordering is short
abbrev pub HasShortEntry : Ranked → Type 0
HasShortEntry (Ranked.Name name) = IsShort name
HasShortEntry (Ranked.Rule name) = IsShort name

-- the word is short, if there is one
abbrev pub HasShortWord : Option Bytes → Type 0
HasShortWord None = Unit {0}
HasShortWord (Some name) = IsShort name

-- A grammar file has at least one rule and not too many, no two of one name; each CHOICE has a
-- branch, and each text and list is short.
pub record IsFileGrammar (g : Grammar) : Type 0 where
  pub some_rule : Not (g.rules ≡ [])
  pub few_rules : length g.rules ≤ most_rules
  pub apart : (j k : ℕ) (a b : NamedRule) → slice_get g.rules j ≡ Some a
      → slice_get g.rules k ≡ Some b → a.0 ≡ b.0 → j ≡ k
  pub small : All IsSmallSight (walk g)
  pub name : IsShort g.name
  pub names : All (λ (rule : NamedRule). IsShort rule.0) g.rules
  pub word : HasShortWord g.word
  pub extras : IsShort g.extras
  pub conflicts : IsShort g.conflicts × All AreShort g.conflicts
  pub precedences : IsShort g.precedences
      × All (λ (entries : List Ranked). IsShort entries × All HasShortEntry entries) g.precedences
  pub inline : AreShort g.inline
  pub supertypes : AreShort g.supertypes
