-- The sources of a grammar's productions, and its limits as the grammar has them.
use Rattle.std.specs.Prelude.{◌≡◌, ◌⊎◌, ℕ, ◌+◌, ◌<◌, List, [], ◌++◌, map, length, take, slice_get, get_or, Some, false}
use Rattle.std.specs.List.{Contains, flat_map}
use Rattle.spec_tables.specs.Fit.{most_productions, most_steps}
use Rattle.ts_core.specs.declared.rule.Grammar.{Grammar}
use Rattle.ts_core.specs.declared.rule.Rule.{Rule}
use Rattle.ts_rules.specs.declared.tree.Alternative.{Alternative}
use Rattle.ts_rules.specs.declared.tree.Tree.{Tree}
use Rattle.ts_rules.specs.Alternatives.{Alternatives}
use Rattle.ts_rules.specs.Causes.{Inlines}
use Rattle.ts_rules.specs.Numbers.{Numbers, Lists, alts, tree_of, first_repetition, first_inlined}
use Rattle.ts_rules.specs.Productions.{AllBecome, IsInner, filled, again}
use Rattle.ts_rules.specs.Sights.{NamedRule, alias}
use Rattle.ts_productions.specs.declared.sources.Sources.{Sources}

-- ---- sources of a grammar

-- a rule's tree by numbers
abbrev pub rule_tree : Numbers → NamedRule → Tree
rule_tree n rule = tree_of n rule.1

-- the sources have the trees of the lists by the numbers, and the aliases in the order of their
-- numbers
pub record AreSourcesOf (n : Numbers) (x : Lists) (s : Sources) : Type 0 where
  pub rules : s.rules.now ≡ map (rule_tree n) x.rules
  pub contents : s.contents.now ≡ map (tree_of n) x.contents
  pub inlined : s.inlined.now ≡ map (rule_tree n) x.inlined
  pub repetitions_from : s.first_repetition ≡ first_repetition x
  pub inlined_from : s.first_inlined ≡ first_inlined x
  pub repetitions : (k : ℕ) (content : Rule) → slice_get x.contents k ≡ Some content
      → n.repetition content ≡ first_repetition x + k
  pub aliases : (k : ℕ) → n.alias_at k ≡ get_or s.aliases.now k (alias [] false)

-- ---- the order of inlining

-- the ranks fall from each rule of the list to those that it steps to and that are inlined there
abbrev pub FallAlong : Grammar → List NamedRule → List ℕ → Type 0
FallAlong g rules ranks = (j k high low : ℕ) (a b : NamedRule) → slice_get rules j ≡ Some a
    → slice_get rules k ≡ Some b → Inlines g a.0 b.0 → slice_get ranks j ≡ Some high
    → slice_get ranks k ≡ Some low → low < high

-- the order has the places of all inlined rules, and before each those of the inlined rules that
-- its rule steps to
pub record IsInlineOrder (g : Grammar) (x : Lists) (order : List ℕ) : Type 0 where
  pub within : (k : ℕ) → Contains order k → k < length x.inlined
  pub every : (k : ℕ) → k < length x.inlined → Contains order k
  pub before : (place from to : ℕ) (a b : NamedRule) → slice_get order place ≡ Some from
      → slice_get x.inlined from ≡ Some a → slice_get x.inlined to ≡ Some b → Inlines g a.0 b.0
      → Contains (take place order) to

-- ---- alternatives that are counted

-- those of a rule
abbrev pub rule_alternatives : Numbers → NamedRule → Alternatives
rule_alternatives n rule = alts n rule.1

-- those of a repetition: each that is not empty, and each behind the repetition itself
abbrev pub repetition_alternatives : Numbers → Rule → Alternatives
repetition_alternatives n content =
    filled (alts n content) ++ again (n.repetition content) (filled (alts n content))

-- those of rules, one after another
abbrev pub all_rule_alternatives : Numbers → List NamedRule → Alternatives
all_rule_alternatives n rules = flat_map (rule_alternatives n) rules

-- those of repetitions, one after another
abbrev pub all_repetition_alternatives : Numbers → List Rule → Alternatives
all_repetition_alternatives n contents = flat_map (repetition_alternatives n) contents

-- of all that have symbols: rules and repetitions
abbrev pub symbol_alternatives : Numbers → Lists → Alternatives
symbol_alternatives n x = all_rule_alternatives n x.rules
    ++ all_repetition_alternatives n x.contents

-- and those of the inlined rules
abbrev pub all_alternatives : Numbers → Lists → Alternatives
all_alternatives n x = all_rule_alternatives n x.inlined ++ symbol_alternatives n x

-- The alternatives are counted before inlining and after it, and equal ones are not yet dropped.
abbrev pub IsCounted : Numbers → Lists → Alternatives → Type 0
IsCounted n x all =
    (all ≡ all_alternatives n x) ⊎ AllBecome (IsInner n x) (symbol_alternatives n x) all

-- there are more than may be
abbrev pub CountsMany : Numbers → Lists → Type 0
CountsMany n x = (all : Alternatives) × IsCounted n x all × (most_productions < length all)

-- one has more steps than may be
abbrev pub CountsLong : Numbers → Lists → Type 0
CountsLong n x = (all : Alternatives) × IsCounted n x all
    × (one : Alternative) × Contains all one × (most_steps < length one.steps)
