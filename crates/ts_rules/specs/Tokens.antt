-- What a token is: its regular expression, its precedence, its name and kind, and whether it is a
-- keyword.
use Rattle.std.specs.Prelude.{◌≡◌, ℕ, Bool, true, false, List, [], ◌∷◌, map, Some, None, IsTrue, ◌↔◌, ◌⊎◌}
use Rattle.std.specs.List.{Contains}
use Rattle.std.specs.Str.{chars}
use lib.IntN.{ℤ, pos}
use Rattle.ts_base.specs.Bytes.{Bytes}
use Rattle.ts_core.specs.declared.flat.TokenDef.{TokenDef}
use Rattle.ts_core.specs.declared.re.Re.{Re}
use Rattle.ts_core.specs.declared.re.Re.TheVariants as re
use Rattle.ts_core.specs.declared.rule.Grammar.{Grammar}
use Rattle.ts_core.specs.declared.rule.PrecValue.{PrecValue}
use Rattle.ts_core.specs.declared.rule.Rule.{Rule}
use Rattle.ts_core.specs.declared.rule.Rule.TheOpen.{Rule-F}
use Rattle.ts_core.specs.declared.rule.Rule.TheVariants.{Literal}
use Rattle.ts_core.specs.declared.rule.Rule.TheViews.{out-Rule}
use Rattle.ts_core.specs.declared.rule.Rule.TheFolds.{fold-Rule}
use Rattle.ts_core.specs.declared.symbol.Kind.{Kind}
use Rattle.spec_lexing.specs.Words.{Word, regular_of}
use Rattle.ts_rules.specs.declared.token_marks.CoreTree.{CoreTree}
use Rattle.ts_rules.specs.FirstSights.{Not}
use Rattle.ts_rules.specs.Numbers.{NamesToken}

-- ---- as a regular expression

-- a Cat of one part is that part, and a Cat of none is Empty
abbrev pub cat_of : List Re → Re
cat_of [] = re.Empty
cat_of (r ∷ []) = r
cat_of (r ∷ s ∷ rs) = re.Cat (r ∷ s ∷ rs)

-- an Alt of one part is that part
abbrev pub alt_of : List Re → Re
alt_of [] = re.Alt []
alt_of (r ∷ []) = r
alt_of (r ∷ s ∷ rs) = re.Alt (r ∷ s ∷ rs)

-- a set of one character
abbrev pub one_char : ℕ → Re
one_char c = re.Set ((c, c) ∷ [])

-- what each pattern of the grammar means
abbrev pub Patterns : Type 0
Patterns = Bytes → Bool → Re

-- a SYMBOL stands in no token and no separator, so that nothing is read of one here
abbrev pub re_step : Patterns → Rule-F Re → Re
re_step pattern Rule-F.Blank = re.Empty
re_step pattern (Rule-F.Literal text) = cat_of (map one_char (chars text))
re_step pattern (Rule-F.Pattern value ignore_case) = pattern value ignore_case
re_step pattern (Rule-F.Symbol name) = re.Empty
re_step pattern (Rule-F.Seq parts) = cat_of parts
re_step pattern (Rule-F.Choice parts) = alt_of parts
re_step pattern (Rule-F.Repeat content) = re.Repeat content 0 None
re_step pattern (Rule-F.Repeat1 content) = re.Repeat content 1 None
re_step pattern (Rule-F.Token content) = content
re_step pattern (Rule-F.ImmediateToken content) = content
re_step pattern (Rule-F.Field name content) = content
re_step pattern (Rule-F.Alias content named value) = content
re_step pattern (Rule-F.Prec value content) = content
re_step pattern (Rule-F.PrecLeft value content) = content
re_step pattern (Rule-F.PrecRight value content) = content
re_step pattern (Rule-F.PrecDynamic value content) = content

-- the expression of a whole tree
abbrev pub tree_re : Patterns → Rule → Re
tree_re pattern = fold-Rule Re (re_step pattern)

-- ---- its precedence

-- a named value counts as 0
abbrev pub number_of : PrecValue → ℤ
number_of (PrecValue.Number value) = value
number_of (PrecValue.Name name) = pos 0

-- the value of a PREC, PREC_LEFT or PREC_RIGHT that stands right here, or under TOKENs alone
abbrev pub under_step : Rule-F ℤ → ℤ
under_step (Rule-F.Token content) = content
under_step (Rule-F.ImmediateToken content) = content
under_step (Rule-F.Prec value content) = number_of value
under_step (Rule-F.PrecLeft value content) = number_of value
under_step (Rule-F.PrecRight value content) = number_of value
under_step layer = pos 0

-- the same value of a whole tree, and 0 where there is none
abbrev pub under : Rule → ℤ
under = fold-Rule ℤ under_step

-- the precedence under a TOKEN or IMMEDIATE_TOKEN, and 0 of any other type
abbrev pub lexical_layer : Rule-F Rule → ℤ
lexical_layer (Rule-F.Token content) = under content
lexical_layer (Rule-F.ImmediateToken content) = under content
lexical_layer layer = pos 0

-- a token has a lexical precedence only by TOKEN or IMMEDIATE_TOKEN
abbrev pub lexical_precedence : Rule → ℤ
lexical_precedence tree = lexical_layer (out-Rule tree)

-- whether the type is IMMEDIATE_TOKEN
abbrev pub immediate_layer : Rule-F Rule → Bool
immediate_layer (Rule-F.ImmediateToken content) = true
immediate_layer layer = false

-- whether a token is an IMMEDIATE_TOKEN
abbrev pub is_immediate : Rule → Bool
is_immediate tree = immediate_layer (out-Rule tree)

-- ---- its name

-- what is left of a token without TOKEN, IMMEDIATE_TOKEN and the types of PREC
pub data Core : Type 0 where
  text : Bytes → Core
  source : Bytes → Core
  other : Core

-- what is left of a tree, by what is left of its content
abbrev pub core_step : Rule-F Core → Core
core_step (Rule-F.Literal value) = text value
core_step (Rule-F.Pattern value ignore_case) = source value
core_step (Rule-F.Token content) = content
core_step (Rule-F.ImmediateToken content) = content
core_step (Rule-F.Prec value content) = content
core_step (Rule-F.PrecLeft value content) = content
core_step (Rule-F.PrecRight value content) = content
core_step (Rule-F.PrecDynamic value content) = content
core_step layer = other

-- what is left of a whole tree
abbrev pub core : Rule → Core
core = fold-Rule Core core_step

-- as the code sees it
abbrev pub core_seen : CoreTree → Core
core_seen (CoreTree.Text value) = text value.now
core_seen (CoreTree.Source value) = source value.now
core_seen CoreTree.Other = other

-- whether a STRING is left
abbrev pub is_text : Core → Bool
is_text (text value) = true
is_text (source value) = false
is_text other = false

-- the text of a STRING, the source of a PATTERN, and else the empty name
abbrev pub core_name : Core → Bytes
core_name (text value) = value
core_name (source value) = value
core_name other = []

-- anonymous where a STRING is left, and else hidden
abbrev pub core_kind : Core → Kind
core_kind (text value) = Kind.Anonymous
core_kind (source value) = Kind.Hidden
core_kind other = Kind.Hidden

-- the name begins with `_`
abbrev pub BeginsLow : Bytes → Type 0
BeginsLow [] = ⊥
BeginsLow (byte ∷ bytes) = byte ≡ 95

-- the name begins with `_`, or it is that of a supertype
abbrev pub IsHidden : Grammar → Bytes → Type 0
IsHidden g name = BeginsLow name ⊎ Contains g.supertypes name

-- a rule is hidden where its name begins with `_` or it is a supertype, and else it is named
abbrev pub IsKind : Grammar → Bytes → Kind → Type 0
IsKind g name kind =
    (IsHidden g name × (kind ≡ Kind.Hidden)) ⊎ (Not (IsHidden g name) × (kind ≡ Kind.Named))

-- a rule gives the token its name and kind
pub record IsNamedBy (g : Grammar) (tree : Rule) (d : TokenDef) : Type 0 where
  pub rule : NamesToken g d.name tree
  pub kind : IsKind g d.name d.kind

-- no rule does; a literal token is anonymous under its text, and any other is hidden
pub record IsUnnamed (g : Grammar) (tree : Rule) (d : TokenDef) : Type 0 where
  pub no_rule : (name : Bytes) → Not (NamesToken g name tree)
  pub name : d.name ≡ core_name (core tree)
  pub kind : d.kind ≡ core_kind (core tree)

-- ---- keywords

-- a plain STRING other than the word token whose whole text the word token matches
pub record IsKeyword (pattern : Patterns) (g : Grammar) (tree : Rule) : Type 0 where
  pub word : Bytes
  pub word_tree : Rule
  pub text : Bytes
  pub is_word : g.word ≡ Some word
  pub names : NamesToken g word word_tree
  pub is_string : tree ≡ Literal text
  pub not_it : Not (tree ≡ word_tree)
  pub matched : Word (regular_of (tree_re pattern word_tree)) (chars text)

-- ---- the whole

-- the token as the flat grammar has it
pub record IsTokenDef (pattern : Patterns) (g : Grammar) (tree : Rule) (d : TokenDef) : Type 0 where
  pub named : IsNamedBy g tree d ⊎ IsUnnamed g tree d
  pub re : d.re ≡ tree_re pattern tree
  pub prec : d.prec ≡ lexical_precedence tree
  pub literal : d.literal ≡ is_text (core tree)
  pub immediate : d.immediate ≡ is_immediate tree
  pub keyword : IsTrue d.keyword ↔ IsKeyword pattern g tree
