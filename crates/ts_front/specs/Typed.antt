-- The numbers and texts of a grammar as the code keeps them: each number fits 32 bits, with a sign
-- or without, and each text is UTF-8. It serves private clauses and proofs alone.
use Rattle.std.specs.Prelude.{ℕ, ◌<◌, ◌^◌, max, ℤ, List, Option, Some, None}
use Rattle.std.specs.Int.{w32}
use Rattle.std.specs.Int.RustNames.{FitsSigned}
use Rattle.std.specs.List.{Contains}
use Rattle.std.specs.Str.{IsUtf8}
use Rattle.ts_core.specs.declared.flat.Alias.{Alias}
use Rattle.ts_core.specs.declared.flat.FlatGrammar.{FlatGrammar}
use Rattle.ts_core.specs.declared.flat.FlatRule.{FlatRule}
use Rattle.ts_core.specs.declared.flat.Prec.{Prec}
use Rattle.ts_core.specs.declared.flat.Production.{Production}
use Rattle.ts_core.specs.declared.flat.Step.{Step}
use Rattle.ts_core.specs.declared.flat.TokenDef.{TokenDef}
use Rattle.ts_core.specs.declared.re.Re.{Re}
use Rattle.ts_core.specs.declared.re.Re.TheOpen.{Re-F}
use Rattle.ts_core.specs.declared.re.Re.TheFolds.{fold-Re}
use Rattle.ts_core.specs.declared.rule.Grammar.{Grammar}
use Rattle.ts_core.specs.declared.rule.PrecValue.{PrecValue}
use Rattle.ts_core.specs.declared.rule.Rule.{Rule}
use Rattle.ts_core.specs.declared.rule.Rule.TheOpen.{Rule-F}
use Rattle.ts_core.specs.declared.rule.Rule.TheViews.{out-Rule}
use Rattle.spec_tables.specs.Fit.{IfThere}
use Rattle.ts_rules.specs.Sights.{NamedRule, Sight, walk, ranked_names}
use Rattle.ts_front.specs.Nesting.{greatest}

-- a whole number of 32 bits, with a sign
abbrev pub IsNumber : ℤ → Type 0
IsNumber value = FitsSigned w32 value

-- ---- regular expressions

-- For proofs alone: the greatest count of a repeat, 0 where it has none
abbrev pub count_of : Option ℕ → ℕ
count_of None = 0
count_of (Some most) = most

-- the greatest count of a repeat
abbrev pub count_step : Re-F ℕ → ℕ
count_step Re-F.Empty = 0
count_step (Re-F.Set ranges) = 0
count_step (Re-F.Cat parts) = greatest parts
count_step (Re-F.Alt parts) = greatest parts
count_step (Re-F.Repeat inner least most) = max inner (max least (count_of most))

-- For proofs alone: the greatest count of a repeat in an expression
abbrev pub greatest_count : Re → ℕ
greatest_count = fold-Re ℕ count_step

-- For proofs alone: each count of a repeat in an expression fits 32 bits
abbrev pub HasShortCounts : Re → Type 0
HasShortCounts re = greatest_count re < 2 ^ 32

-- ---- a grammar in normal form

-- For proofs alone: a precedence that is a number fits 32 bits with a sign
abbrev pub IsTypedPrec : Prec → Type 0
IsTypedPrec Prec.Absent = Unit {0}
IsTypedPrec (Prec.Number value) = IsNumber value
IsTypedPrec (Prec.Name name) = Unit {0}

-- For proofs alone: a step's precedence fits, and the name of its alias is UTF-8
pub record IsTypedStep (s : Step) : Type 0 where
  pub prec : IsTypedPrec s.prec
  pub alias : IfThere (λ (a : Alias). IsUtf8 a.name) s.alias

-- For proofs alone: a production's dynamic precedence fits, and each step is so
pub record IsTypedProduction (p : Production) : Type 0 where
  pub dynamic : IsNumber p.dynamic
  pub steps : (s : Step) → Contains p.steps s → IsTypedStep s

-- For proofs alone: a rule's name is UTF-8, and each production is so
pub record IsTypedRule (r : FlatRule) : Type 0 where
  pub name : IsUtf8 r.name
  pub productions : (p : Production) → Contains r.productions p → IsTypedProduction p

-- For proofs alone: a token's name is UTF-8, and its precedence and its counts fit
pub record IsTypedToken (d : TokenDef) : Type 0 where
  pub name : IsUtf8 d.name
  pub prec : IsNumber d.prec
  pub counts : HasShortCounts d.re

-- For proofs alone: all texts of a grammar in normal form are UTF-8, and all its numbers fit
pub record IsTyped (f : FlatGrammar) : Type 0 where
  pub name : IsUtf8 f.name
  pub tokens : (d : TokenDef) → Contains f.tokens d → IsTypedToken d
  pub rules : (r : FlatRule) → Contains f.rules r → IsTypedRule r
  pub separators : (re : Re) → Contains f.separators re → HasShortCounts re
  pub fields : (name : List ℕ) → Contains f.fields name → IsUtf8 name
  pub precs : (name : List ℕ) → Contains f.precs name → IsUtf8 name

-- ---- a grammar file

-- For proofs alone: the number of a precedence fits 32 bits with a sign, or its name is UTF-8
abbrev pub IsTypedValue : PrecValue → Type 0
IsTypedValue (PrecValue.Number value) = IsNumber value
IsTypedValue (PrecValue.Name name) = IsUtf8 name

-- a rule type's own texts and numbers
abbrev pub IsTypedLayer : Rule-F Rule → Type 0
IsTypedLayer Rule-F.Blank = Unit {0}
IsTypedLayer (Rule-F.Literal text) = IsUtf8 text
IsTypedLayer (Rule-F.Pattern value ignore_case) = IsUtf8 value
IsTypedLayer (Rule-F.Symbol name) = IsUtf8 name
IsTypedLayer (Rule-F.Seq members) = Unit {0}
IsTypedLayer (Rule-F.Choice members) = Unit {0}
IsTypedLayer (Rule-F.Repeat content) = Unit {0}
IsTypedLayer (Rule-F.Repeat1 content) = Unit {0}
IsTypedLayer (Rule-F.Token content) = Unit {0}
IsTypedLayer (Rule-F.ImmediateToken content) = Unit {0}
IsTypedLayer (Rule-F.Field name content) = IsUtf8 name
IsTypedLayer (Rule-F.Alias content named value) = IsUtf8 value
IsTypedLayer (Rule-F.Prec value content) = IsTypedValue value
IsTypedLayer (Rule-F.PrecLeft value content) = IsTypedValue value
IsTypedLayer (Rule-F.PrecRight value content) = IsTypedValue value
IsTypedLayer (Rule-F.PrecDynamic value content) = IsNumber value

-- For proofs alone: the own texts and numbers of the tree that is seen are so
abbrev pub IsTypedSight : Sight → Type 0
IsTypedSight sight = IsTypedLayer (out-Rule sight.tree)

-- For proofs alone: those of each tree that is seen are so
abbrev pub AreTyped : List Sight → Type 0
AreTyped all = (s : Sight) → Contains all s → IsTypedSight s

-- For proofs alone: all texts of a grammar file are UTF-8, and all its numbers fit
pub record IsTypedGrammar (g : Grammar) : Type 0 where
  pub name : IsUtf8 g.name
  pub names : (rule : NamedRule) → Contains g.rules rule → IsUtf8 rule.0
  pub walked : AreTyped (walk g)
  pub ranked : (name : List ℕ) → Contains (ranked_names g) name → IsUtf8 name
