-- The patterns of a grammar file: where they stand, and what was read of them.
use Rattle.std.specs.Prelude.{◌≡◌, Bool, true, false, List, [], ◌∷◌, ◌++◌, map, Option, Some, None}
use Rattle.std.specs.List.{Contains, flat_map}
use Rattle.std.specs.Str.{bytes_eq}
use Rattle.indexmap.specs.IndexMap.{get}
use Rattle.ts_base.specs.Bytes.{Bytes}
use Rattle.ts_core.specs.declared.re.Re.{Re}
use Rattle.ts_core.specs.declared.re.Re.TheVariants.{Empty}
use Rattle.ts_core.specs.declared.rule.Grammar.{Grammar}
use Rattle.ts_core.specs.declared.rule.Rule.{Rule}
use Rattle.ts_pattern.specs.declared.fault.PFault.{PFault}
use Rattle.ts_pattern.specs.declared.fault.PFault.TheVariants.{Memory}
use Rattle.ts_pattern.specs.Reads.{Reads, IsFault}
use Rattle.ts_rules.specs.FirstSights.{Not, First}
use Rattle.ts_rules.specs.Sights.{NamedRule, Sight, Source, sights, patterns_in}
use Rattle.ts_rules.specs.Tokens.{Patterns}
use Rattle.spec_tables.specs.Fit.{IsShort}
use Rattle.ts_tokens.specs.declared.fault.PatternFault.{PatternFault}
use Rattle.ts_tokens.specs.declared.fault.PatternFault.TheVariants as fault
use Rattle.ts_tokens.specs.declared.table.PatternTable.{PatternTable}

-- ---- where patterns stand

-- a pattern, and the name of the rule in which it stands; an extra has the empty name
pub record PlacedPattern : Type 0 where
  pub rule : Bytes
  pub source : Source

-- a pattern that stands in this rule
abbrev pub placed : Bytes → Source → PlacedPattern
placed rule source = record { rule = rule; source = source }

-- patterns that stand in this rule
abbrev pub placed_sources : Bytes → List Source → List PlacedPattern
placed_sources rule = map (placed rule)

-- the patterns of a rule or extra, as they stand there
abbrev pub placed_in : Bytes → List Sight → List PlacedPattern
placed_in rule seen = placed_sources rule (patterns_in seen)

-- the patterns of rules, one rule after another
abbrev pub rule_patterns : List NamedRule → List PlacedPattern
rule_patterns rules = flat_map (λ (rule : NamedRule). placed_in rule.0 (sights rule.1)) rules

-- the patterns of extras, one extra after another
abbrev pub extra_patterns : List Rule → List PlacedPattern
extra_patterns extras = flat_map (λ (tree : Rule). placed_in [] (sights tree)) extras

-- the patterns of the walk: the rules in file order, each in preorder, then the extras
abbrev pub placed_patterns : Grammar → List PlacedPattern
placed_patterns g = rule_patterns g.rules ++ extra_patterns g.extras

-- ---- refusals

-- the pattern is read as no regular expression
abbrev pub IsUnreadable : PlacedPattern → Type 0
IsUnreadable p = (r : Re) → Not (Reads p.source.0 p.source.1 r)

-- the first pattern of the walk that can't be read stands in this rule, and has this fault
pub record IsRefusedPattern (all : List PlacedPattern) (rule : Bytes)
    (cause : PFault) : Type 0 where
  pub pattern : PlacedPattern
  pub first : First IsUnreadable all pattern
  pub rule_is : rule ≡ pattern.rule
  pub caused : Not (cause ≡ Memory)
  pub cause_is : IsFault pattern.source.0 pattern.source.1 cause

-- why patterns are refused; running out of memory has no cause
abbrev pub IsPatternFault : List PlacedPattern → PatternFault → Type 0
IsPatternFault all (fault.Refused rule cause) = IsRefusedPattern all rule cause
IsPatternFault all fault.Memory = Unit {0}

-- ---- what was read

-- what the source was read as, where it was
abbrev pub read_as : PatternTable → Source → Option Re
read_as t (source, true) = get bytes_eq t.ignoring_case source
read_as t (source, false) = get bytes_eq t.plain source

-- the expression, where there is one, and else the empty one
abbrev pub or_empty : Option Re → Re
or_empty (Some r) = r
or_empty None = Empty

-- what each pattern of the grammar means
abbrev pub meaning : PatternTable → Patterns
meaning t source ignore_case = or_empty (read_as t (source, ignore_case))

-- each source of the table reads as what stands there
abbrev pub IsSound : PatternTable → Type 0
IsSound t = (s : Source) (r : Re) → read_as t s ≡ Some r → Reads s.0 s.1 r

-- the source was read
abbrev pub WasRead : PatternTable → Source → Type 0
WasRead t s = (r : Re) × (read_as t s ≡ Some r)

-- ---- while patterns are read; these serve private clauses and proofs alone

-- the source is in the table now, beside those that were
pub record TakesIn (old new : PatternTable) (s : Source) : Type 0 where
  pub keeps : (q : Source) → WasRead old q → WasRead new q
  pub has : WasRead new s
  pub sound : IsSound old → IsSound new

-- the source can't be read, and this is its fault
abbrev pub IsRefusal : Source → PFault → Type 0
IsRefusal s fault = IsFault s.0 s.1 fault × ((r : Re) → Not (Reads s.0 s.1 r))

-- the fault of a pattern in the rule
abbrev pub IsFaultAt : Bytes → PFault → PatternFault → Type 0
IsFaultAt rule cause (fault.Refused name stated) =
    (name ≡ rule) × (stated ≡ cause) × Not (cause ≡ Memory)
IsFaultAt rule cause fault.Memory = Unit {0}

-- the source of each pattern is short
abbrev pub AreShortSources : List PlacedPattern → Type 0
AreShortSources all = (p : PlacedPattern) → Contains all p → IsShort p.source.0
