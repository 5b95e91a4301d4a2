-- What has to hold of a grammar for a file to spell it and to be read again: each field by itself,
-- and what it names. What is known of the word and of the names is a parameter.
use Rattle.std.specs.Prelude.{◌≡◌, ◌⊎◌, ℕ, zero, suc, ◌+◌, ◌-◌, ◌<◌, ◌≤◌, ◌^◌, ℤ, Bool, true, false, nat_lt, nat_le, nat_eq, ◌&&◌, List, [], ◌∷◌, length, Option, Some, None, is_some}
use Rattle.std.specs.Int.{w32}
use Rattle.std.specs.Int.RustNames.{FitsSigned}
use Rattle.std.specs.List.{AllByRecursion}
use Rattle.std.specs.Str.{is_utf8}
use Rattle.ts_base.specs.Bytes.{Bytes}
use Rattle.ts_core.specs.declared.flat.Alias.{Alias}
use Rattle.ts_core.specs.declared.flat.Entry.{Entry}
use Rattle.ts_core.specs.declared.flat.FlatGrammar.{FlatGrammar}
use Rattle.ts_core.specs.declared.flat.FlatRule.{FlatRule}
use Rattle.ts_core.specs.declared.flat.Prec.{Prec}
use Rattle.ts_core.specs.declared.flat.Production.{Production}
use Rattle.ts_core.specs.declared.flat.Step.{Step}
use Rattle.ts_core.specs.declared.flat.TokenDef.{TokenDef}
use Rattle.ts_core.specs.declared.re.Re.{Re}
use Rattle.ts_core.specs.declared.re.Re.TheVariants.{Empty, Set, Cat, Alt, Repeat}
use Rattle.ts_core.specs.declared.symbol.Symbol.{Symbol}
use Rattle.spec_tables.specs.Fit.{IfThere, most_symbols, most_names, most_steps, most_productions, symbols_of}
use Rattle.ts_langfile.specs.declared.known.Known.{Known}
use Rattle.ts_langfile.specs.Spelling.{file, new_version, old_version}
use Rattle.ts_langfile.specs.Parts.{is_character, ends_range, behind_range, most_levels, may_name, may_be_keyword, left_after, is_hidden, behind_symbol}

-- each is right in its state, which goes on from one to the next
abbrev pub InTurn : {S A : Type 0} → (S → A → Type 0) → (S → A → S) → S → List A → Type 0
InTurn Right after state [] = Unit {0}
InTurn Right after state (x ∷ xs) = Right state x × InTurn Right after (after state x) xs

-- ---- texts, symbols and names

-- UTF-8, and short enough for its length
abbrev pub IsShortText : Bytes → Type 0
IsShortText t = (length t < 2 ^ 32) × (is_utf8 t ≡ true)

-- from the least on, and below the bound
abbrev pub IsBetween : ℕ → ℕ → Symbol → Type 0
IsBetween least bound s = (s.0 < 2 ^ 16) × (least ≤ s.0) × (s.0 < bound)

-- a name's number, which may be there
abbrev pub IsName : Option ℕ → ℕ → Type 0
IsName count n = (n < 2 ^ 16) × (may_name count n ≡ true)

-- ---- expressions

-- whether a number is a character, and not below the least
abbrev pub begins_range : ℕ → ℕ → Bool
begins_range least c = is_character c && nat_le least c

-- a range that begins at the least or above
abbrev pub RightRange : ℕ → ℕ × ℕ → Type 0
RightRange least r = ((r.0 < 2 ^ 32) × (begins_range least r.0 ≡ true))
    × ((r.1 < 2 ^ 32) × (ends_range r.0 r.1 ≡ true))

-- the most times of a repeat, where there is a most: it fits 32 bits and is not below the least
abbrev pub RightMost : ℕ → Option ℕ → Type 0
RightMost least = IfThere (λ (most : ℕ). (most < 2 ^ 32) × (nat_le least most ≡ true))

-- an expression of the kind of this tag, whose parts have the property
abbrev pub ReBy : (Re → Type 0) → ℕ → Re → Type 0
ReBy Inner zero r = r ≡ Empty
ReBy Inner (suc zero) r = (ranges : List (ℕ × ℕ)) × (r ≡ Set ranges)
    × ((length ranges < 2 ^ 32) × InTurn RightRange behind_range 0 ranges)
ReBy Inner (suc (suc zero)) r = (parts : List Re) × (r ≡ Cat parts)
    × ((length parts < 2 ^ 32) × AllByRecursion Inner parts)
ReBy Inner (suc (suc (suc zero))) r = (parts : List Re) × (r ≡ Alt parts)
    × ((length parts < 2 ^ 32) × AllByRecursion Inner parts)
ReBy Inner (suc (suc (suc (suc tag)))) r = (inside : Re) × (least : ℕ) × (most : Option ℕ)
    × (r ≡ Repeat inside least most) × Inner inside × (least < 2 ^ 32) × RightMost least most

-- an expression in which at most so many stand in one another
abbrev pub RightRe : ℕ → Re → Type 0
RightRe zero r = ⊥
RightRe (suc room) r = (tag : ℕ) × (tag ≤ 4) × ReBy (RightRe room) tag r

-- ---- tokens and rules

-- a token: its name, expression and precedence are right, and it may be a keyword if it is one
pub record RightToken (known : Known) (d : TokenDef) : Type 0 where
  pub name : IsShortText d.name
  pub re : RightRe most_levels d.re
  pub prec : FitsSigned w32 d.prec
  pub keyword : may_be_keyword known d.literal d.keyword ≡ true

-- a precedence: its value fits 32 bits, or its name may be there
abbrev pub RightPrec : Known → Prec → Type 0
RightPrec known Prec.Absent = Unit {0}
RightPrec known (Prec.Number value) = FitsSigned w32 value
RightPrec known (Prec.Name name) = IsName known.precs name

-- a step: it names a token or a rule, and its precedence, alias and field are right
pub record RightStep (symbols : ℕ) (known : Known) (s : Step) : Type 0 where
  pub symbol : IsBetween 1 symbols s.symbol
  pub prec : RightPrec known s.prec
  pub alias : IfThere (λ (a : Alias). IsShortText a.name) s.alias
  pub field : IfThere (IsName known.fields) s.field

-- a production: its dynamic value fits 32 bits, and its steps are few enough and right
abbrev pub RightProduction : ℕ → Known → Production → Type 0
RightProduction symbols known p = FitsSigned w32 p.dynamic × (length p.steps ≤ most_steps)
    × AllByRecursion (RightStep symbols known) p.steps

-- a rule where so many more productions may come
pub record RightRule (symbols : ℕ) (known : Known) (left : ℕ) (r : FlatRule) : Type 0 where
  pub name : IsShortText r.name
  pub owner : IsBetween 0 symbols r.owner
  pub few : (length r.productions < 2 ^ 32) × (length r.productions ≤ left)
  pub productions : AllByRecursion (RightProduction symbols known) r.productions

-- an entry of an ordering: a name or a symbol that is there
abbrev pub RightEntry : ℕ → ℕ → Entry → Type 0
RightEntry symbols precs (Entry.Name name) = IsName (Some precs) name
RightEntry symbols precs (Entry.Rule s) = IsBetween 0 symbols s

-- ---- the whole

-- how many rules there may be beside so many tokens
abbrev pub may_be_rules : ℕ → ℕ → Bool
may_be_rules tokens n = nat_lt 0 n && nat_le (suc (tokens + n)) most_symbols

-- a hidden symbol from the least on
abbrev pub IsSupertypeSymbol : List TokenDef → List FlatRule → ℕ → Symbol → Type 0
IsSupertypeSymbol tokens rules least s = (s.0 < 2 ^ 16)
    × ((nat_le least s.0 && is_hidden tokens rules s.0) ≡ true)

-- in the old version there are none, and else they are hidden symbols that rise
abbrev pub RightSupertypes : Bool → List TokenDef → List FlatRule → List Symbol → Type 0
RightSupertypes true tokens rules xs = xs ≡ []
RightSupertypes false tokens rules xs = (length xs < 2 ^ 32)
    × InTurn (IsSupertypeSymbol tokens rules) behind_symbol 1 xs

-- a grammar, where so much is known of its word and names
pub record RightBy (version : ℕ) (known : Known) (f : FlatGrammar) : Type 0 where
  pub name : IsShortText f.name
  pub few_tokens : (length f.tokens < 2 ^ 32) × (length f.tokens ≤ most_symbols - 1)
  pub tokens : AllByRecursion (RightToken known) f.tokens
  pub few_rules : (length f.rules < 2 ^ 32)
      × (may_be_rules (length f.tokens) (length f.rules) ≡ true)
  pub rules : InTurn (λ (left : ℕ). RightRule (symbols_of f) known left) left_after
      most_productions f.rules
  pub separators : (length f.separators < 2 ^ 32)
      × AllByRecursion (RightRe most_levels) f.separators
  pub extras : (length f.extras < 2 ^ 32)
      × AllByRecursion (IsBetween 1 (suc (length f.tokens))) f.extras
  pub word : IfThere (IsBetween 1 (suc (length f.tokens))) f.word
  pub few_fields : (length f.fields < 2 ^ 32) × (length f.fields ≤ most_names)
  pub fields : AllByRecursion IsShortText f.fields
  pub few_precs : (length f.precs < 2 ^ 32) × (length f.precs ≤ most_names)
  pub precs : AllByRecursion IsShortText f.precs
  pub conflicts : (length f.conflicts < 2 ^ 32) × AllByRecursion (λ (set : List Symbol).
      (length set < 2 ^ 32) × AllByRecursion (IsBetween 0 (symbols_of f)) set) f.conflicts
  pub precedences : (length f.precedences < 2 ^ 32) × AllByRecursion (λ (es : List Entry).
      (length es < 2 ^ 32)
      × AllByRecursion (RightEntry (symbols_of f) (length f.precs)) es) f.precedences
  pub supertypes : RightSupertypes (nat_eq version old_version) f.tokens f.rules f.supertypes

-- what its own later fields tell
abbrev pub known_of : FlatGrammar → Known
known_of f = record {
  word = Some (is_some f.word);
  fields = Some (length f.fields);
  precs = Some (length f.precs);
}

-- each field of the grammar is right, by what the fields behind it tell
abbrev pub Right : ℕ → FlatGrammar → Type 0
Right version f = RightBy version (known_of f) f

-- a version that can be read
abbrev pub IsVersion : ℕ → Type 0
IsVersion version = (version ≡ old_version) ⊎ (version ≡ new_version)

-- the bytes are the file of this grammar in a version
pub record Reads (f : FlatGrammar) (w : Bytes) : Type 0 where
  pub version : ℕ
  pub known : IsVersion version
  pub spelled : w ≡ file version f
  pub right : Right version f
