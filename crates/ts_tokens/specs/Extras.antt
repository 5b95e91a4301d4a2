-- The SYMBOLs of extras, and the extras that are tokens.
use Rattle.std.specs.Prelude.{◌≡◌, false, List, map}
use Rattle.std.specs.List.{flat_map}
use Rattle.ts_base.specs.Bytes.{Bytes}
use Rattle.ts_core.specs.declared.rule.Grammar.{Grammar}
use Rattle.ts_core.specs.declared.rule.Rule.{Rule}
use Rattle.ts_core.specs.declared.re.Re.{Re}
use Rattle.ts_core.specs.declared.rule.Rule.TheVariants as rule
use Rattle.ts_core.specs.declared.rule.Rule.TheViews.{out-Rule}
use Rattle.ts_rules.specs.Causes.{ExtraSymbol, extra_symbols_by, IsBadExtra}
use Rattle.ts_rules.specs.FirstSights.{Not, First, Picks}
use Rattle.ts_rules.specs.Normal.{AreSeparators, IsTokenExtra}
use Rattle.ts_rules.specs.Sights.{tokens_in, rule_sights}
use Rattle.ts_rules.specs.Tokens.{Patterns, tree_re}
use Rattle.ts_tokens.specs.Names.{HaveSame}
use Rattle.ts_tokens.specs.declared.causes.ExtraSymbol.{ExtraSymbol as Symbol}

-- this is the name of the first SYMBOL that can't stand in extras
abbrev pub IsFirstBad : Grammar → List ExtraSymbol → Bytes → Type 0
IsFirstBad g symbols name =
    (x : ExtraSymbol) × First (IsBadExtra g) symbols x × (name ≡ x.0)

-- these are the tokens of the rules
abbrev pub AreRuleTokens : Grammar → List Rule → Type 0
AreRuleTokens g tokens = HaveSame tokens (tokens_in (rule_sights g))

-- these are the expressions of the separators
abbrev pub AreSeparatorsOf : Grammar → Patterns → List Re → Type 0
AreSeparatorsOf g pattern found =
    (trees : List Rule) × AreSeparators g trees × (found ≡ map (tree_re pattern) trees)

-- the tree is a SYMBOL
abbrev pub IsSymbolTree : Rule → Type 0
IsSymbolTree tree = (name : Bytes) × (tree ≡ rule.Symbol name)

-- ---- as the code has them; these serve private clauses and proofs alone

-- the expressions of the separators among some extras
abbrev pub ArePickedOf : Grammar → Patterns → List Rule → List Re → Type 0
ArePickedOf g pattern extras found =
    (trees : List Rule) × Picks (λ (tree : Rule). Not (IsTokenExtra g tree)) extras trees
    × (found ≡ map (tree_re pattern) trees)

-- a SYMBOL: its name, and whether it is the whole extra
abbrev pub symbol_told : Symbol → ExtraSymbol
symbol_told s = (s.name.now, s.whole)

-- SYMBOLs, in order
abbrev pub symbols_told : List Symbol → List ExtraSymbol
symbols_told = map symbol_told

-- SYMBOLs that stand inside an extra
abbrev pub inner_symbols : List Bytes → List ExtraSymbol
inner_symbols = map (λ (name : Bytes). (name, false))

-- the SYMBOLs of some extras, in order
abbrev pub symbols_of_all : List Rule → List ExtraSymbol
symbols_of_all extras = flat_map (λ (tree : Rule). extra_symbols_by tree (out-Rule tree)) extras
