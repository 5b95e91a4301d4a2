-- What is told of the tokens and of the word before they are defined.
use Rattle.std.specs.Prelude.{◌≡◌, ◌↔◌, IsTrue, ℕ, Bool, List, map, length, slice_get, Option, None, Some, MatchOption}
use Rattle.std.specs.Borrow.{Bor}
use Rattle.ts_base.specs.Bytes.{Bytes}
use Rattle.ts_core.specs.declared.flat.TokenDef.{TokenDef}
use Rattle.ts_core.specs.declared.rule.Grammar.{Grammar}
use Rattle.ts_core.specs.declared.rule.Rule.{Rule}
use Rattle.ts_core.specs.declared.symbol.Kind.{Kind}
use Rattle.ts_rules.specs.FirstSights.{Not, Each}
use Rattle.ts_rules.specs.Numbers.{NamesToken}
use Rattle.ts_rules.specs.Tokens.{Patterns, IsKeyword, IsKind, core, core_name, core_kind, tree_re, lexical_precedence, is_text, is_immediate}
use Rattle.ts_tokens.specs.declared.definition.NamedToken.{NamedToken}
use Rattle.ts_tokens.specs.declared.definition.Label.{Label}
use Rattle.ts_tokens.specs.Names.{HaveSame}

-- the rule, if there is one, is the one that names the token
abbrev pub IsNaming : Grammar → NamedToken → Type 0
IsNaming g t = MatchOption t.name
    ((name : Bytes) → Not (NamesToken g name t.tree.now))
    (λ name. NamesToken g name.now t.tree.now)

-- the trees of tokens
abbrev pub trees_of : List NamedToken → List Rule
trees_of = map (λ (t : NamedToken). t.tree.now)

-- the tree, if there is one, is that of the grammar's word
abbrev pub IsWordTree : Grammar → Option (Bor Rule) → Type 0
IsWordTree g tree = MatchOption tree
    (g.word ≡ None)
    (λ tree. (name : Bytes) × (g.word ≡ Some name) × NamesToken g name tree.now)

-- the kind of a rule of this name, where these are the supertypes
abbrev pub IsRuleKind : List Bytes → Bytes → Kind → Type 0
IsRuleKind supertypes name kind =
    (g : Grammar) → HaveSame supertypes g.supertypes → IsKind g name kind

-- ---- while they are defined; these serve private clauses and proofs alone

-- each flag says whether the token is a keyword
abbrev pub AreKeywords : Patterns → Grammar → List Rule → List Bool → Type 0
AreKeywords pattern g trees flags =
    Each (λ (tree : Rule) (flag : Bool). IsTrue flag ↔ IsKeyword pattern g tree) trees flags

-- the name and the kind of a token that no rule names
abbrev pub IsOwnLabel : Rule → Label → Type 0
IsOwnLabel tree label =
    (label.name ≡ core_name (core tree)) × (label.kind ≡ core_kind (core tree))

-- the name and the kind of a token
abbrev pub IsLabel : List Bytes → NamedToken → Label → Type 0
IsLabel supertypes t label = MatchOption t.name
    (IsOwnLabel t.tree.now label)
    (λ name. (label.name ≡ name.now) × IsRuleKind supertypes name.now label.kind)

-- the definition of a token, by what was told of it
pub record IsDefined (pattern : Patterns) (supertypes : List Bytes) (t : NamedToken)
    (keyword : Bool) (d : TokenDef) : Type 0 where
  pub label : IsLabel supertypes t (record { name = d.name; kind = d.kind })
  pub re : d.re ≡ tree_re pattern t.tree.now
  pub prec : d.prec ≡ lexical_precedence t.tree.now
  pub literal : d.literal ≡ is_text (core t.tree.now)
  pub immediate : d.immediate ≡ is_immediate t.tree.now
  pub keyword_is : d.keyword ≡ keyword

-- so it is with each of the first so many tokens and its flag
pub record AreDefined (pattern : Patterns) (supertypes : List Bytes) (tokens : List NamedToken)
    (keywords : List Bool) (n : ℕ) (defs : List TokenDef) : Type 0 where
  pub count : length defs ≡ n
  pub each : (k : ℕ) (t : NamedToken) (keyword : Bool) (d : TokenDef) → slice_get tokens k ≡ Some t
      → slice_get keywords k ≡ Some keyword → slice_get defs k ≡ Some d
      → IsDefined pattern supertypes t keyword d
