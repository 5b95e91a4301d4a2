-- How the tokens, rules, repetitions and names of a grammar are numbered.
use Rattle.std.specs.Prelude.{◌≡◌, ℕ, ◌+◌, suc, Bool, true, false, not, List, [], ◌∷◌, ◌++◌, map, length, slice_get, Option, Some, None}
use Rattle.std.specs.List.{Contains, list_any}
use lib.IntN.{pos}
use Rattle.ts_base.specs.Bytes.{Bytes}
use Rattle.ts_core.specs.declared.flat.Alias.{Alias}
use Rattle.ts_core.specs.declared.flat.Assoc.{Assoc}
use Rattle.ts_core.specs.declared.flat.Prec.{Prec}
use Rattle.ts_core.specs.declared.rule.Grammar.{Grammar}
use Rattle.ts_core.specs.declared.rule.PrecValue.{PrecValue}
use Rattle.ts_core.specs.declared.rule.Rule.{Rule}
use Rattle.ts_core.specs.declared.rule.Rule.TheOpen.{Rule-F}
use Rattle.ts_core.specs.declared.rule.Rule.TheVariants.{Literal, Pattern, Token, ImmediateToken}
use Rattle.ts_core.specs.declared.rule.Rule.TheFolds.{para-Rule}
use Rattle.ts_rules.specs.declared.tree.Around.{Around}
use Rattle.ts_rules.specs.declared.tree.Alternative.{Alternative}
use Rattle.ts_rules.specs.declared.tree.Tree.{Tree}
use Rattle.ts_rules.specs.declared.tree.Tree.TheVariants as tree
use Rattle.ts_rules.specs.Alternatives.{Alternatives, alternatives_of}
use Rattle.ts_rules.specs.FirstSights.{Not, AreFirstSights, Picks, Once}
use Rattle.ts_rules.specs.Sights.{NamedRule, walk, rule_sights, tokens_in, contents_in, fields_in, precs_in, aliases_in, ranked_names, is_token, alias}

-- the number of each token, rule, repetition and name, as far as it stands in the grammar
pub record Numbers : Type 0 where
  pub token : Rule → ℕ
  pub rule : Bytes → ℕ
  pub repetition : Rule → ℕ
  pub field : Bytes → ℕ
  pub prec : Bytes → ℕ
  -- aliases have numbers only while productions are made
  pub alias : Alias → ℕ
  pub alias_at : ℕ → Alias

-- ---- a rule tree by numbers

-- nothing stands round a whole rule
abbrev pub outermost : Around
outermost = record {
  prec = Prec.Absent;
  assoc = Assoc.Absent;
  alias = None;
  field = None;
  dynamic = pos 0;
  at_end = true;
}

-- whether the list is empty
abbrev pub is_blank : {X : Type 0} → List X → Bool
is_blank [] = true
is_blank (x ∷ xs) = false

-- some alternative has no step
abbrev pub has_blank : Tree → Bool
has_blank content = list_any (λ (x : Alternative). is_blank x.steps)
    (alternatives_of content outermost)

-- some alternative has a step
abbrev pub has_steps : Tree → Bool
has_steps content = list_any (λ (x : Alternative). not (is_blank x.steps))
    (alternatives_of content outermost)

-- the tree, where it is so
abbrev pub where_so : Bool → Tree → List Tree
where_so true tree = tree ∷ []
where_so false tree = []

-- the repetition where the content has a step in some alternative, and nothing in any case
abbrev pub any_times : ℕ → Tree → Tree
any_times repetition content = tree.Choice (where_so (has_steps content)
    (tree.Step repetition) ++ tree.Blank ∷ [])

-- the repetition where the content has a step in some alternative, and nothing where some
-- alternative is empty
abbrev pub many_times : ℕ → Tree → Tree
many_times repetition content =
    tree.Choice (where_so (has_steps content) (tree.Step repetition) ++ where_so
    (has_blank content) tree.Blank)

-- a precedence, by the number of its name if it has one
abbrev pub prec_of : Numbers → PrecValue → Prec
prec_of n (PrecValue.Number value) = Prec.Number value
prec_of n (PrecValue.Name name) = Prec.Name (n.prec name)

-- a rule tree beside its tree by numbers
abbrev pub Numbered : Type 0
Numbered = Rule × Tree

-- the trees by numbers of some rule trees
abbrev pub inner_trees : List Numbered → List Tree
inner_trees = map (λ (inner : Numbered). inner.1)

-- a rule tree by numbers, by its inner trees, each beside its tree by numbers
abbrev pub tree_step : Numbers → Rule-F Numbered → Tree
tree_step n Rule-F.Blank = tree.Blank
tree_step n (Rule-F.Literal text) = tree.Step (n.token (Literal text))
tree_step n (Rule-F.Pattern value ignore_case) = tree.Step (n.token (Pattern value ignore_case))
tree_step n (Rule-F.Symbol name) = tree.Step (n.rule name)
tree_step n (Rule-F.Seq members) = tree.Seq (inner_trees members)
tree_step n (Rule-F.Choice members) = tree.Choice (inner_trees members)
tree_step n (Rule-F.Repeat content) = any_times (n.repetition content.0) content.1
tree_step n (Rule-F.Repeat1 content) = many_times (n.repetition content.0) content.1
tree_step n (Rule-F.Token content) = tree.Step (n.token (Token content.0))
tree_step n (Rule-F.ImmediateToken content) = tree.Step (n.token (ImmediateToken content.0))
tree_step n (Rule-F.Field name content) = tree.Field (n.field name) content.1
tree_step n (Rule-F.Alias content named value) = tree.Alias (n.alias (alias value named)) content.1
tree_step n (Rule-F.Prec value content) = tree.Group (prec_of n value) Assoc.Absent content.1
tree_step n (Rule-F.PrecLeft value content) = tree.Group (prec_of n value) Assoc.Left content.1
tree_step n (Rule-F.PrecRight value content) = tree.Group (prec_of n value) Assoc.Right content.1
tree_step n (Rule-F.PrecDynamic value content) = tree.Dynamic value content.1

-- a rule tree by numbers
abbrev pub tree_of : Numbers → Rule → Tree
tree_of n = para-Rule Tree (tree_step n)

-- the ordered step lists of a whole rule tree
abbrev pub alts : Numbers → Rule → Alternatives
alts n rule = alternatives_of (tree_of n rule) outermost

-- ---- which rules have symbols

-- some rule has the name
abbrev pub IsRule : Grammar → Bytes → Type 0
IsRule g name = (tree : Rule) × Contains g.rules (name, tree)

-- the name of the start rule, the first of the file
abbrev pub start_of : List NamedRule → Option Bytes
start_of [] = None
start_of (rule ∷ rules) = Some rule.0

-- a rule other than the start rule whose whole tree is a token that stands nowhere else in the
-- rules
pub record NamesToken (g : Grammar) (name : Bytes) (tree : Rule) : Type 0 where
  pub is : Contains g.rules (name, tree)
  pub other : Not (start_of g.rules ≡ Some name)
  pub token : is_token tree ≡ true
  pub once : Once (tokens_in (rule_sights g)) tree

-- the rule names some token
abbrev pub NamesSome : Grammar → Bytes → Type 0
NamesSome g name = (tree : Rule) × NamesToken g name tree

-- a name in `inline` that is no rule is read over
pub record IsInlined (g : Grammar) (name : Bytes) : Type 0 where
  pub listed : Contains g.inline name
  pub rule : IsRule g name

-- the rules that neither name a token nor are inlined
pub record HasSymbol (g : Grammar) (rule : NamedRule) : Type 0 where
  pub unnamed : Not (NamesSome g rule.0)
  pub kept : Not (IsInlined g rule.0)

-- every number is 0; which alternatives are empty doesn't depend on the numbers
abbrev pub unnumbered : Numbers
unnumbered = record {
  token = λ tree. 0;
  rule = λ name. 0;
  repetition = λ content. 0;
  field = λ name. 0;
  prec = λ name. 0;
  alias = λ a. 0;
  alias_at = λ k. alias [] false;
}

-- a content with a non-empty alternative
abbrev pub IsRepeated : Rule → Type 0
IsRepeated content = has_steps (tree_of unnumbered content) ≡ true

-- ---- the lists behind the numbers, in their orders

-- the tokens, rules, contents, inlined rules, field names and precedence names of a grammar
pub record Lists : Type 0 where
  pub tokens : List Rule
  pub rules : List NamedRule
  pub contents : List Rule
  pub inlined : List NamedRule
  pub fields : List Bytes
  pub precs : List Bytes

-- tokens, contents and names by first sight, and rules in file order
pub record AreLists (g : Grammar) (x : Lists) : Type 0 where
  pub tokens : AreFirstSights (tokens_in (rule_sights g)) x.tokens
  pub rules : Picks (HasSymbol g) g.rules x.rules
  pub contents : (seen : List Rule) × Picks IsRepeated (contents_in (rule_sights g)) seen
      × AreFirstSights seen x.contents
  pub inlined : Picks (λ (rule : NamedRule). IsInlined g rule.0) g.rules x.inlined
  pub fields : AreFirstSights (fields_in (walk g)) x.fields
  pub precs : AreFirstSights (precs_in (walk g) ++ ranked_names g) x.precs

-- symbol 0 is the end; then come the tokens
abbrev pub first_rule : Lists → ℕ
first_rule x = suc (length x.tokens)

-- then come the rules, and behind them the repetitions
abbrev pub first_repetition : Lists → ℕ
first_repetition x = first_rule x + length x.rules

-- how many symbols there are; inlined rules have numbers past them, only while productions are made
abbrev pub first_inlined : Lists → ℕ
first_inlined x = first_repetition x + length x.contents

-- each number is a place in its list
pub record AreNumbers (g : Grammar) (n : Numbers) (x : Lists) : Type 0 where
  pub tokens : (k : ℕ) (tree : Rule) → slice_get x.tokens k ≡ Some tree → n.token tree ≡ suc k
  pub rules : (k : ℕ) (rule : NamedRule) → slice_get x.rules k ≡ Some rule
      → n.rule rule.0 ≡ first_rule x + k
  pub named : (name : Bytes) (tree : Rule) → NamesToken g name tree → n.rule name ≡ n.token tree
  pub contents : (k : ℕ) (content : Rule) → slice_get x.contents k ≡ Some content
      → n.repetition content ≡ first_repetition x + k
  pub inlined : (k : ℕ) (rule : NamedRule) → slice_get x.inlined k ≡ Some rule
      → n.rule rule.0 ≡ first_inlined x + k
  pub fields : (k : ℕ) (name : Bytes) → slice_get x.fields k ≡ Some name → n.field name ≡ k
  pub precs : (k : ℕ) (name : Bytes) → slice_get x.precs k ≡ Some name → n.prec name ≡ k
  pub aliases : (a : Alias) → Contains (aliases_in (walk g)) a → n.alias_at (n.alias a) ≡ a
