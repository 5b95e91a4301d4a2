-- Numbers by places in lists.
use Rattle.std.specs.Prelude.{ℕ, ◌+◌, Bool, false, ◌&&◌, List, [], get_or, Option, Some, None}
use Rattle.std.specs.Bool.{beq}
use Rattle.std.specs.List.{position}
use Rattle.std.specs.Str.{bytes_eq}
use Rattle.ts_base.specs.Bytes.{Bytes}
use Rattle.ts_core.specs.contracts.rule.RulePartialEq.TheImpl as rule_eq
use Rattle.ts_core.specs.declared.flat.Alias.{Alias}
use Rattle.ts_core.specs.declared.rule.Rule.{Rule}
use Rattle.ts_rules.specs.Causes.{names_of}
use Rattle.ts_rules.specs.Numbers.{Numbers, Lists, first_rule, first_repetition, first_inlined}
use Rattle.ts_rules.specs.Sights.{NamedRule, alias}
use Rattle.ts_numbering.specs.Surveys.{tree_named}

-- whether two trees are the same
abbrev pub same_tree : Rule → Rule → Bool
same_tree = rule_eq.ghosts.eq

-- whether two aliases are the same
abbrev pub same_alias : Alias → Alias → Bool
same_alias a b = bytes_eq a.name b.name && beq a.named b.named

-- a number by a place in a list, counted from the first number of that list
abbrev pub number_or : ℕ → ℕ → Option ℕ → ℕ
number_or other first None = other
number_or other first (Some place) = first + place

-- the first place of a name in a list, where it stands there
abbrev pub place_of_name : List Bytes → Bytes → Option ℕ
place_of_name names name = position (bytes_eq name) names

-- the first place of a tree in a list, where it stands there
abbrev pub place_of_tree : List Rule → Rule → Option ℕ
place_of_tree trees tree = position (same_tree tree) trees

-- tokens follow the end
abbrev pub token_number : List Rule → Rule → ℕ
token_number tokens tree = number_or 0 1 (place_of_tree tokens tree)

-- the number of the token, where there is one
abbrev pub named_number : List Rule → Option Rule → ℕ
named_number tokens None = 0
named_number tokens (Some tree) = token_number tokens tree

-- Of what stands in the lists, each has its number by its place; a rule that names a token has that
-- token's. What stands in none has the number 0.
abbrev pub numbers_by : Lists → List NamedRule → List Alias → Numbers
numbers_by x named aliases = record {
  token = token_number x.tokens;
  rule = λ name. number_or (number_or (named_number x.tokens (tree_named named name))
      (first_inlined x) (place_of_name (names_of x.inlined) name))
      (first_rule x) (place_of_name (names_of x.rules) name);
  repetition = λ content. number_or 0 (first_repetition x) (place_of_tree x.contents content);
  field = λ name. number_or 0 0 (place_of_name x.fields name);
  prec = λ name. number_or 0 0 (place_of_name x.precs name);
  alias = λ a. number_or 0 0 (position (same_alias a) aliases);
  alias_at = λ k. get_or aliases k (alias [] false);
}
