-- What holds of every grammar that a file stands for, where no object of the file has two members
-- of one name.
use Rattle.std.specs.Prelude.{◌≡◌, ◌≢◌, ℕ, ◌≤◌, Bool, true, false, [], ◌∷◌, length, slice_get, Some}
use Rattle.std.specs.List.{list_all}
use Rattle.ts_base.specs.Bytes.{Bytes}
use Rattle.ts_core.specs.declared.rule.Rule.{Rule}
use Rattle.ts_core.specs.declared.rule.Rule.TheOpen.{Rule-F}
use Rattle.ts_core.specs.declared.rule.Rule.TheFolds.{fold-Rule}
use Rattle.ts_core.specs.declared.rule.Grammar.{Grammar}
use Rattle.ts_grammar_json.specs.File.{most_rules}

-- the truth value itself, as a test of elements
abbrev pub is_true : Bool → Bool
is_true b = b

-- a CHOICE has a member, and what is below is so
abbrev pub choices_step : Rule-F Bool → Bool
choices_step Rule-F.Blank = true
choices_step (Rule-F.Literal text) = true
choices_step (Rule-F.Pattern value ignore_case) = true
choices_step (Rule-F.Symbol name) = true
choices_step (Rule-F.Seq members) = list_all is_true members
choices_step (Rule-F.Choice []) = false
choices_step (Rule-F.Choice (one ∷ members)) = list_all is_true (one ∷ members)
choices_step (Rule-F.Repeat content) = content
choices_step (Rule-F.Repeat1 content) = content
choices_step (Rule-F.Token content) = content
choices_step (Rule-F.ImmediateToken content) = content
choices_step (Rule-F.Field name content) = content
choices_step (Rule-F.Alias content named value) = content
choices_step (Rule-F.Prec value content) = content
choices_step (Rule-F.PrecLeft value content) = content
choices_step (Rule-F.PrecRight value content) = content
choices_step (Rule-F.PrecDynamic value content) = content

-- each CHOICE in a rule tree has a member
abbrev pub has_choices : Rule → Bool
has_choices = fold-Rule Bool choices_step

-- A grammar has a rule and not too many, none without a name, no two of one name, and each CHOICE
-- has a member.
pub record IsWellFormed (g : Grammar) : Type 0 where
  pub some_rule : g.rules ≢ []
  pub few_rules : length g.rules ≤ most_rules
  pub named : (k : ℕ) (rule : Bytes × Rule) → slice_get g.rules k ≡ Some rule → rule.0 ≢ []
  pub apart : (j k : ℕ) (a b : Bytes × Rule) → slice_get g.rules j ≡ Some a
      → slice_get g.rules k ≡ Some b → a.0 ≡ b.0 → j ≡ k
  pub choices : (k : ℕ) (rule : Bytes × Rule) → slice_get g.rules k ≡ Some rule
      → has_choices rule.1 ≡ true
  pub extras : (k : ℕ) (tree : Rule) → slice_get g.extras k ≡ Some tree → has_choices tree ≡ true
