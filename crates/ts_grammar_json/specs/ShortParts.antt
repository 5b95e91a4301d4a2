-- How long the texts and lists of a grammar are: no longer than a number.
use Rattle.std.specs.Prelude.{◌≡◌, ℕ, ◌≤◌, Bool, true, ◌&&◌, nat_le, List, length, slice_get, Some, All}
use Rattle.std.specs.List.{list_all}
use Rattle.ts_base.specs.Bytes.{Bytes}
use Rattle.ts_core.specs.declared.rule.PrecValue.{PrecValue}
use Rattle.ts_core.specs.declared.rule.PrecValue.TheVariants.{Number, Name}
use Rattle.ts_core.specs.declared.rule.Ranked.{Ranked}
use Rattle.ts_core.specs.declared.rule.Ranked.TheVariants as ranked
use Rattle.ts_core.specs.declared.rule.Rule.{Rule}
use Rattle.ts_core.specs.declared.rule.Rule.TheOpen.{Rule-F}
use Rattle.ts_core.specs.declared.rule.Rule.TheFolds.{fold-Rule}
use Rattle.ts_core.specs.declared.rule.Grammar.{Grammar}
use Rattle.ts_grammar_json.specs.WellFormed.{is_true}

-- the list is no longer than n
abbrev pub is_within : {X : Type 0} → ℕ → List X → Bool
is_within n xs = nat_le (length xs) n

-- the precedence is a number, or its name is no longer than n
abbrev pub has_name_within : ℕ → PrecValue → Bool
has_name_within n (Number value) = true
has_name_within n (Name name) = is_within n name

-- a rule type's own texts and lists are no longer, and what is below it is so
abbrev pub within_step : ℕ → Rule-F Bool → Bool
within_step n Rule-F.Blank = true
within_step n (Rule-F.Literal text) = is_within n text
within_step n (Rule-F.Pattern value ignore_case) = is_within n value
within_step n (Rule-F.Symbol name) = is_within n name
within_step n (Rule-F.Seq members) = is_within n members && list_all is_true members
within_step n (Rule-F.Choice members) = is_within n members && list_all is_true members
within_step n (Rule-F.Repeat content) = content
within_step n (Rule-F.Repeat1 content) = content
within_step n (Rule-F.Token content) = content
within_step n (Rule-F.ImmediateToken content) = content
within_step n (Rule-F.Field name content) = is_within n name && content
within_step n (Rule-F.Alias content named value) = is_within n value && content
within_step n (Rule-F.Prec value content) = has_name_within n value && content
within_step n (Rule-F.PrecLeft value content) = has_name_within n value && content
within_step n (Rule-F.PrecRight value content) = has_name_within n value && content
within_step n (Rule-F.PrecDynamic value content) = content

-- no text and no list in a rule tree is longer
abbrev pub has_parts_within : ℕ → Rule → Bool
has_parts_within n = fold-Rule Bool (within_step n)

-- the list is no longer, and each of its entries is so
abbrev pub ListWithin : {X : Type 0} → ℕ → (X → Type 0) → List X → Type 0
ListWithin n P xs = (length xs ≤ n) × All P xs

-- the text is no longer than n
abbrev pub TextWithin : ℕ → Bytes → Type 0
TextWithin n text = length text ≤ n

-- the name in an entry of `precedences` is no longer than n
abbrev pub EntryWithin : ℕ → Ranked → Type 0
EntryWithin n (ranked.Name name) = TextWithin n name
EntryWithin n (ranked.Rule name) = TextWithin n name

-- no text and no list in the grammar is longer
pub record HasPartsWithin (n : ℕ) (g : Grammar) : Type 0 where
  pub name : TextWithin n g.name
  pub names : (k : ℕ) (rule : Bytes × Rule) → slice_get g.rules k ≡ Some rule → TextWithin n rule.0
  pub trees : (k : ℕ) (rule : Bytes × Rule) → slice_get g.rules k ≡ Some rule
      → has_parts_within n rule.1 ≡ true
  pub word : (name : Bytes) → g.word ≡ Some name → TextWithin n name
  pub few_extras : length g.extras ≤ n
  pub extras : (k : ℕ) (tree : Rule) → slice_get g.extras k ≡ Some tree
      → has_parts_within n tree ≡ true
  pub conflicts : ListWithin n (ListWithin n (TextWithin n)) g.conflicts
  pub precedences : ListWithin n (ListWithin n (EntryWithin n)) g.precedences
  pub inline : ListWithin n (TextWithin n) g.inline
  pub supertypes : ListWithin n (TextWithin n) g.supertypes
