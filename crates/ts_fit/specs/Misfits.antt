-- Why a grammar in normal form is not fit, and what else it takes to be fit.
use Rattle.std.specs.Prelude.{◌≡◌, ℕ, ◌≤◌, suc, true, List, [], Option, Some, None, All, slice_get, length}
use Rattle.ts_core.specs.declared.flat.Entry.{Entry}
use Rattle.ts_core.specs.declared.flat.FlatGrammar.{FlatGrammar}
use Rattle.ts_core.specs.declared.flat.FlatRule.{FlatRule}
use Rattle.ts_core.specs.declared.flat.TokenDef.{TokenDef}
use Rattle.ts_core.specs.declared.limits.Unfit.{Unfit}
use Rattle.ts_core.specs.declared.symbol.Symbol.{Symbol}
use Rattle.spec_lexing.specs.Words.{Word, regular_of}
use Rattle.spec_tables.specs.Fit.{AreRising, AreShort, IfThere, IsCyclic, IsEmptyRule, IsFitEntry, IsFitProduction, IsFitRe, IsFitRepetition, IsHiddenSymbol, IsRepetitionAt, IsShort, IsSymbol, IsToken, IsUsed, Never, all_positions, most_names, most_positions, most_positions_in_all, most_productions, most_symbols, positions, productions_of, rule_symbol, symbols_of}

-- ---- the first place

-- so it is at this place, and at no place before
pub record IsFirstPlace (P : ℕ → Type 0) (place : ℕ) : Type 0 where
  pub holds : P place
  pub least : (other : ℕ) → P other → place ≤ other

-- the first place where it is so, or nothing where it is so nowhere
abbrev pub FindsFirst : (ℕ → Type 0) → Option ℕ → Type 0
FindsFirst P None = (place : ℕ) → Never (P place)
FindsFirst P (Some place) = IsFirstPlace P place

-- ---- causes

-- the symbol of the token at a place
abbrev pub symbol_of_token : ℕ → Symbol
symbol_of_token place = record { 0 = suc place }

-- the token at this place matches the empty text
abbrev pub IsEmptyToken : FlatGrammar → ℕ → Type 0
IsEmptyToken f place = (d : TokenDef) × (slice_get f.tokens place ≡ Some d)
    × Word (regular_of d.re) []

-- the rule at this place has the form of a repetition if it is one
abbrev pub HasFormAt : FlatGrammar → ℕ → Type 0
HasFormAt f place = (r : FlatRule) → slice_get f.rules place ≡ Some r → IsRepetitionAt f place r
    → IsFitRepetition f place r

-- each repetition has the form of one
abbrev pub AreFitRepetitions : FlatGrammar → Type 0
AreFitRepetitions f = (place : ℕ) → HasFormAt f place

-- the rule at this place is a repetition, and hasn't the form of one
abbrev pub IsBadRepetition : FlatGrammar → ℕ → Type 0
IsBadRepetition f place = (r : FlatRule) × (slice_get f.rules place ≡ Some r)
    × IsRepetitionAt f place r × Never (IsFitRepetition f place r)

-- neither a token has too many positions, nor have all tokens and separators together
pub record HasFewPositions (f : FlatGrammar) : Type 0 where
  pub each : All (λ (d : TokenDef). positions d.re ≤ most_positions) f.tokens
  pub in_all : all_positions f ≤ most_positions_in_all

-- The one cause that is told: of the kinds in this order the first that stands, with its first
-- symbol.
pub data Misfits (f : FlatGrammar) : Unfit → Type 0 where
  repetition : (place : ℕ) → FindsFirst (IsBadRepetition f) (Some place)
      → Misfits f (Unfit.Repetition (rule_symbol f place))
  empty_token : (place : ℕ) → AreFitRepetitions f
      → FindsFirst (IsEmptyToken f) (Some place)
      → Misfits f (Unfit.EmptyToken (symbol_of_token place))
  empty_rule : (place : ℕ) → AreFitRepetitions f → FindsFirst (IsEmptyToken f) None
      → FindsFirst (IsEmptyRule f) (Some place)
      → Misfits f (Unfit.EmptyRule (rule_symbol f place))
  cyclic : (place : ℕ) → AreFitRepetitions f → FindsFirst (IsEmptyToken f) None
      → FindsFirst (IsEmptyRule f) None → FindsFirst (IsCyclic f) (Some place)
      → Misfits f (Unfit.Cyclic (rule_symbol f place))
  too_many : AreFitRepetitions f → FindsFirst (IsEmptyToken f) None
      → FindsFirst (IsEmptyRule f) None → FindsFirst (IsCyclic f) None → Never (HasFewPositions f)
      → Misfits f Unfit.Positions

-- none of the causes stands
pub record HasNoMisfit (f : FlatGrammar) : Type 0 where
  pub repetitions : AreFitRepetitions f
  pub tokens : FindsFirst (IsEmptyToken f) None
  pub rules : FindsFirst (IsEmptyRule f) None
  pub straight : FindsFirst (IsCyclic f) None
  pub few_positions : HasFewPositions f

-- ---- what else it takes to be fit

-- a keyword is a literal token, and there is one only where there is a word
pub record IsFormedToken (f : FlatGrammar) (d : TokenDef) : Type 0 where
  pub name : IsShort d.name
  pub re : IsFitRe d.re
  pub literal : d.keyword ≡ true → d.literal ≡ true
  pub word : d.keyword ≡ true → Never (f.word ≡ None)

-- a rule's name is short, its owner is there, and its productions are fit
pub record IsFormedRule (f : FlatGrammar) (r : FlatRule) : Type 0 where
  pub name : IsShort r.name
  pub owner : IsSymbol f r.owner
  pub productions : All (IsFitProduction f) r.productions

-- The limits but those on positions are kept, what is named is there, and sets, repeats and lists
-- have their form.
pub record IsFormedGrammar (f : FlatGrammar) : Type 0 where
  pub name : IsShort f.name
  pub some_rule : Never (f.rules ≡ [])
  pub few_symbols : symbols_of f ≤ most_symbols
  pub few_fields : length f.fields ≤ most_names
  pub few_precs : length f.precs ≤ most_names
  pub few_productions : productions_of f ≤ most_productions
  pub tokens : All (IsFormedToken f) f.tokens
  pub rules : All (IsFormedRule f) f.rules
  pub separators : IsShort f.separators × All IsFitRe f.separators
  pub extras : IsShort f.extras × All (IsToken f) f.extras
  pub word : IfThere (IsToken f) f.word
  pub fields : AreShort f.fields
  pub precs : AreShort f.precs
  pub conflicts : AreShort f.conflicts
      × All (λ (set : List Symbol). All (IsSymbol f) set) f.conflicts
  pub precedences : AreShort f.precedences
      × All (λ (list : List Entry). All (IsFitEntry f) list) f.precedences
  pub supertypes : All (IsHiddenSymbol f) f.supertypes × AreRising f.supertypes

-- the place is that of the start rule, and no step is the start rule
abbrev pub IsUnusedStart : FlatGrammar → ℕ → Type 0
IsUnusedStart f place = (place ≡ 0) × Never (IsUsed f (rule_symbol f 0))
