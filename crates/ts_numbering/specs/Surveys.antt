-- What has a number in the rules of a grammar, and which rules name a token or are inlined.
use Rattle.std.specs.Prelude.{◌≡◌, Bool, true, false, List, [], ◌∷◌, ◌++◌, if◌then◌else◌, Option, Some, None}
use Rattle.std.specs.List.{Contains}
use Rattle.std.specs.Str.{bytes_eq}
use Rattle.ts_base.specs.Bytes.{Bytes}
use Rattle.ts_core.specs.declared.rule.Grammar.{Grammar}
use Rattle.ts_core.specs.declared.rule.Rule.{Rule}
use Rattle.ts_rules.specs.Causes.{names_of}
use Rattle.ts_rules.specs.FirstSights.{Not, Picks, AreFirstSights}
use Rattle.ts_rules.specs.Numbers.{HasSymbol, IsInlined, NamesToken, IsRepeated}
use Rattle.ts_rules.specs.Sights.{NamedRule, rule_sights, tokens_in, contents_in}
use Rattle.ts_numbering.specs.Keys.{trees, rules_told}
use Rattle.ts_numbering.specs.declared.survey.Survey.{Survey}

-- a value, where it is kept
abbrev pub kept_if : {X : Type 0} → Bool → X → List X
kept_if true x = x ∷ []
kept_if false x = []

-- a rule whose name is new went to the end, where it was wanted
abbrev pub IsAdded : List NamedRule → NamedRule → Bool → List NamedRule → Type 0
IsAdded old rule wanted new = Not (Contains (names_of old) rule.0)
    → new ≡ old ++ kept_if wanted rule

-- the rule is inlined
abbrev pub IsInlinedRule : Grammar → NamedRule → Type 0
IsInlinedRule g rule = IsInlined g rule.0

-- the rule names the token that is its tree
abbrev pub NamesItsToken : Grammar → NamedRule → Type 0
NamesItsToken g rule = NamesToken g rule.0 rule.1

-- the contents that are repeated, by first sight
abbrev pub AreContents : Grammar → List Rule → Type 0
AreContents g contents = (seen : List Rule) × Picks IsRepeated (contents_in (rule_sights g)) seen
    × AreFirstSights seen contents

-- What was found is what has a number in the rules of the grammar. A rule that is inlined and also
-- names a token is in both lists.
pub record IsSurvey (g : Grammar) (s : Survey) : Type 0 where
  pub tokens : AreFirstSights (tokens_in (rule_sights g)) (trees s.tokens.keys)
  pub contents : AreContents g (trees s.contents.keys)
  pub rules : Picks (HasSymbol g) g.rules (rules_told s.rules.entries)
  pub inlined : Picks (IsInlinedRule g) g.rules (rules_told s.inlined.entries)
  pub named : Picks (NamesItsToken g) g.rules (rules_told s.named.entries)

-- the tree of the first rule of that name
abbrev pub tree_named : List NamedRule → Bytes → Option Rule
tree_named [] name = None
tree_named (rule ∷ rules) name = if bytes_eq name rule.0 then Some rule.1 else tree_named rules name

-- a tree, where there is one
abbrev pub listed_tree : Option Rule → List Rule
listed_tree None = []
listed_tree (Some tree) = tree ∷ []
