-- When a flat grammar is fit for what is made of it.
use Rattle.std.specs.Prelude.{◌≡◌, ℕ, ◌+◌, ◌*◌, ◌<◌, ◌≤◌, ◌^◌, suc, true, List, [], ◌∷◌, ◌++◌, map, length, sum, max, slice_get, Option, Some, None, All, ◌⊎◌}
use Rattle.std.specs.List.{Contains, flat_map}
use Rattle.ts_base.specs.Characters.{first_surrogate, past_surrogates, character_count}
use Rattle.ts_core.specs.declared.flat.Alias.{Alias}
use Rattle.ts_core.specs.declared.flat.Assoc.{Assoc}
use Rattle.ts_core.specs.declared.flat.Entry.{Entry}
use Rattle.ts_core.specs.declared.flat.FlatGrammar.{FlatGrammar}
use Rattle.ts_core.specs.declared.flat.FlatRule.{FlatRule}
use Rattle.ts_core.specs.declared.flat.Prec.{Prec}
use Rattle.ts_core.specs.declared.flat.Production.{Production}
use Rattle.ts_core.specs.declared.flat.Step.{Step}
use Rattle.ts_core.specs.declared.flat.TokenDef.{TokenDef}
use Rattle.ts_core.specs.declared.re.Re.{Re}
use Rattle.ts_core.specs.declared.re.Re.TheOpen.{Re-F}
use Rattle.ts_core.specs.declared.re.Re.TheFolds.{fold-Re}
use Rattle.ts_core.specs.declared.symbol.Kind.{Kind}
use Rattle.ts_core.specs.declared.symbol.Symbol.{Symbol}
use Rattle.spec_lexing.specs.Words.{Regular, empty, never, one_of, both, either, repeat, Word, regular_of}

-- it does not hold
abbrev pub Never : Type 0 → Type 0
Never P = P → ⊥

-- ---- limits

-- symbols, the end among them
abbrev pub most_symbols : ℕ
most_symbols = 16384

-- field names, and as many precedence names
abbrev pub most_names : ℕ
most_names = 16384

-- productions, of all rules together
abbrev pub most_productions : ℕ
most_productions = 65535

-- of one production
abbrev pub most_steps : ℕ
most_steps = 255

-- of one token
abbrev pub most_positions : ℕ
most_positions = 8192

-- of all tokens and separators
abbrev pub most_positions_in_all : ℕ
most_positions_in_all = 65536

-- fewer than 2 ^ 32 bytes or entries
abbrev pub IsShort : {X : Type 0} → List X → Type 0
IsShort xs = length xs < 2 ^ 32

-- ---- regular expressions

-- how often a repeat counts the positions of what it repeats
abbrev pub times : ℕ → Option ℕ → ℕ
times least None = max least 1
times least (Some most) = most

-- A set has one position, and a list of parts the sum of theirs; a repeat has those of its inner
-- expression once for each time, or once and at least as often as it must where there is no most.
abbrev pub positions_step : Re-F ℕ → ℕ
positions_step Re-F.Empty = 0
positions_step (Re-F.Set ranges) = 1
positions_step (Re-F.Cat parts) = sum parts
positions_step (Re-F.Alt parts) = sum parts
positions_step (Re-F.Repeat inner least most) = times least most * inner

-- how many positions an expression has
abbrev pub positions : Re → ℕ
positions = fold-Re ℕ positions_step

-- no character stands for half of another one
abbrev pub IsCharacter : ℕ → Type 0
IsCharacter c = (c < first_surrogate) ⊎ ((past_surrogates ≤ c) × (c < character_count))

-- The range rises and lies on one side of the surrogates.
abbrev pub IsRange : ℕ × ℕ → Type 0
IsRange range = (range.0 ≤ range.1) × IsCharacter range.0 × IsCharacter range.1
    × ((range.1 < first_surrogate) ⊎ (past_surrogates ≤ range.0))

-- neither meets nor touches the range before it
abbrev pub AreApartRanges : List (ℕ × ℕ) → Type 0
AreApartRanges [] = Unit {0}
AreApartRanges (a ∷ []) = Unit {0}
AreApartRanges (a ∷ b ∷ ranges) = (suc a.1 < b.0) × AreApartRanges (b ∷ ranges)

-- a set in form: fewer than 2 ^ 32 ranges, which rise and neither meet nor touch
abbrev pub IsSet : List (ℕ × ℕ) → Type 0
IsSet ranges = IsShort ranges × All IsRange ranges × AreApartRanges ranges

-- the most is not below the least
abbrev pub IsInOrder : ℕ → Option ℕ → Type 0
IsInOrder least None = Unit {0}
IsInOrder least (Some most) = least ≤ most

-- the sets and repeats of an expression are in form
abbrev pub IsFormed : Regular → Type 0
IsFormed empty = Unit {0}
IsFormed never = Unit {0}
IsFormed (one_of ranges) = IsSet ranges
IsFormed (both p q) = IsFormed p × IsFormed q
IsFormed (either p q) = IsFormed p × IsFormed q
IsFormed (repeat p least most) = IsInOrder least most × IsFormed p

-- how many parts each list of parts in an expression has
abbrev pub lengths_step : Re-F (List ℕ) → List ℕ
lengths_step Re-F.Empty = []
lengths_step (Re-F.Set ranges) = []
lengths_step (Re-F.Cat parts) = length parts ∷ flat_map (λ (part : List ℕ). part) parts
lengths_step (Re-F.Alt parts) = length parts ∷ flat_map (λ (part : List ℕ). part) parts
lengths_step (Re-F.Repeat inner least most) = inner

-- how many parts each list of parts in an expression has, at all levels
abbrev pub lengths : Re → List ℕ
lengths = fold-Re (List ℕ) lengths_step

-- the sets and repeats are in form, and each list of parts has fewer than 2 ^ 32
abbrev pub IsFitRe : Re → Type 0
IsFitRe re = IsFormed (regular_of re) × All (λ (n : ℕ). n < 2 ^ 32) (lengths re)

-- ---- what is named is there

-- how many symbols there are, the end among them
abbrev pub symbols_of : FlatGrammar → ℕ
symbols_of f = suc (length f.tokens + length f.rules)

-- the symbol is there
abbrev pub IsSymbol : FlatGrammar → Symbol → Type 0
IsSymbol f s = s.0 < symbols_of f

-- the symbol is that of a token
abbrev pub IsToken : FlatGrammar → Symbol → Type 0
IsToken f s = (0 < s.0) × (s.0 ≤ length f.tokens)

-- the symbol of the rule at a place
abbrev pub rule_symbol : FlatGrammar → ℕ → Symbol
rule_symbol f k = record { 0 = suc (length f.tokens + k) }

-- the rule with this symbol
abbrev pub HasRule : FlatGrammar → Symbol → FlatRule → Type 0
HasRule f s r = (k : ℕ) × (slice_get f.rules k ≡ Some r) × (s ≡ rule_symbol f k)

-- the precedence names nothing, or a name that is there
abbrev pub IsPrec : FlatGrammar → Prec → Type 0
IsPrec f Prec.Absent = Unit {0}
IsPrec f (Prec.Number value) = Unit {0}
IsPrec f (Prec.Name name) = name < length f.precs

-- it holds of the value where there is one
abbrev pub IfThere : {X : Type 0} → (X → Type 0) → Option X → Type 0
IfThere P None = Unit {0}
IfThere P (Some x) = P x

-- a step names a token or a rule, and never the end
pub record IsFitStep (f : FlatGrammar) (step : Step) : Type 0 where
  pub symbol : IsSymbol f step.symbol
  pub not_end : 0 < step.symbol.0
  pub prec : IsPrec f step.prec
  pub field : IfThere (λ (field : ℕ). field < length f.fields) step.field
  pub alias : IfThere (λ (alias : Alias). IsShort alias.name) step.alias

-- a production has at most so many steps, each of them fit
pub record IsFitProduction (f : FlatGrammar) (p : Production) : Type 0 where
  pub few : length p.steps ≤ most_steps
  pub steps : All (IsFitStep f) p.steps

-- ---- tokens

-- a keyword is a literal token, and there is one only where there is a word
pub record IsFitToken (f : FlatGrammar) (d : TokenDef) : Type 0 where
  pub name : IsShort d.name
  pub re : IsFitRe d.re
  pub few : positions d.re ≤ most_positions
  pub filled : Never (Word (regular_of d.re) [])
  pub literal : d.keyword ≡ true → d.literal ≡ true
  pub word : d.keyword ≡ true → Never (f.word ≡ None)

-- how many positions all tokens and separators have together
abbrev pub all_positions : FlatGrammar → ℕ
all_positions f = sum (map (λ (d : TokenDef). positions d.re) f.tokens)
    + sum (map positions f.separators)

-- ---- repetitions

-- a rule is a repetition where its owner isn't its own symbol
abbrev pub IsRepetitionAt : FlatGrammar → ℕ → FlatRule → Type 0
IsRepetitionAt f k r = Never (r.owner ≡ rule_symbol f k)

-- the symbol as a step without marks
abbrev pub bare_step : Symbol → Step
bare_step s = record {
  symbol = s;
  prec = Prec.Absent;
  assoc = Assoc.Absent;
  alias = None;
  field = None;
}

-- the symbol itself before a production
abbrev pub again_after : Symbol → Production → Production
again_after s p = record { dynamic = p.dynamic; steps = bare_step s ∷ p.steps }

-- A repetition is not the start rule, is hidden and has no name; its owner is a rule that is no
-- repetition; and its productions are at least one, and then the same ones after the repetition
-- itself.
pub record IsFitRepetition (f : FlatGrammar) (k : ℕ) (r : FlatRule) : Type 0 where
  pub not_start : 0 < k
  pub hidden : r.kind ≡ Kind.Hidden
  pub unnamed : r.name ≡ []
  pub owner : (o : FlatRule) × HasRule f r.owner o × (o.owner ≡ r.owner)
  pub contents : List Production
  pub some_content : Never (contents ≡ [])
  pub productions : r.productions ≡ contents ++ map (again_after (rule_symbol f k)) contents

-- ---- empty rules and cycles

-- some production steps to the symbol
abbrev pub IsUsed : FlatGrammar → Symbol → Type 0
IsUsed f s = (r : FlatRule) × (p : Production) × (step : Step) × Contains f.rules r
    × Contains r.productions p
    × Contains p.steps step × (step.symbol ≡ s)

-- the rule has an empty production
abbrev pub HasEmpty : FlatRule → Type 0
HasEmpty r = (p : Production) × Contains r.productions p × (p.steps ≡ [])

-- the rule at this place has an empty production, and is not the start rule or is used
abbrev pub IsEmptyRule : FlatGrammar → ℕ → Type 0
IsEmptyRule f k = (r : FlatRule) × (slice_get f.rules k ≡ Some r) × HasEmpty r
    × ((0 < k) ⊎ IsUsed f (rule_symbol f k))

-- a production of the one symbol is the other symbol alone
pub record Alone (f : FlatGrammar) (from to : Symbol) : Type 0 where
  pub rule : FlatRule
  pub has_rule : HasRule f from rule
  pub production : Production
  pub has_production : Contains rule.productions production
  pub step : Step
  pub is_alone : production.steps ≡ step ∷ []
  pub leads : step.symbol ≡ to

-- the one symbol derives the other alone
pub data Derives (f : FlatGrammar) : Symbol → Symbol → Type 0 where
  at_once : (a b : Symbol) → Alone f a b → Derives f a b
  through : (a b c : Symbol) → Alone f a b → Derives f b c → Derives f a c

-- the rule at this place derives itself alone
abbrev pub IsCyclic : FlatGrammar → ℕ → Type 0
IsCyclic f k = Derives f (rule_symbol f k) (rule_symbol f k)

-- ---- rules

-- the rule at this place is fit, and neither empty where it may not be nor cyclic
pub record IsFitRule (f : FlatGrammar) (k : ℕ) (r : FlatRule) : Type 0 where
  pub name : IsShort r.name
  pub owner : IsSymbol f r.owner
  pub productions : All (IsFitProduction f) r.productions
  pub repetition : IsRepetitionAt f k r → IsFitRepetition f k r
  pub filled : Never (IsEmptyRule f k)
  pub straight : Never (IsCyclic f k)

-- how many productions there are
abbrev pub productions_of : FlatGrammar → ℕ
productions_of f = sum (map (λ (r : FlatRule). length r.productions) f.rules)

-- ---- lists of symbols

-- an entry of an ordering names a precedence or a symbol that is there
abbrev pub IsFitEntry : FlatGrammar → Entry → Type 0
IsFitEntry f (Entry.Name name) = name < length f.precs
IsFitEntry f (Entry.Rule s) = IsSymbol f s

-- each symbol is above the one before it
abbrev pub AreRising : List Symbol → Type 0
AreRising symbols = (j k : ℕ) (a b : Symbol) → j < k → slice_get symbols j ≡ Some a
    → slice_get symbols k ≡ Some b
    → a.0 < b.0

-- the symbol is a token or a rule that is hidden
abbrev pub IsHiddenSymbol : FlatGrammar → Symbol → Type 0
IsHiddenSymbol f s = ((d : TokenDef) × (k : ℕ) × (slice_get f.tokens k ≡ Some d)
    × (s.0 ≡ suc k) × (d.kind ≡ Kind.Hidden))
    ⊎ ((r : FlatRule) × HasRule f s r × (r.kind ≡ Kind.Hidden))

-- the list is short, and so is each list in it
abbrev pub AreShort : {X : Type 0} → List (List X) → Type 0
AreShort lists = IsShort lists × All (λ xs. IsShort xs) lists

-- ---- the whole

-- the limits are kept, what is named is there, and all tokens, rules and lists are fit
pub record Fit (f : FlatGrammar) : Type 0 where
  pub name : IsShort f.name
  pub some_rule : Never (f.rules ≡ [])
  pub few_symbols : symbols_of f ≤ most_symbols
  pub few_fields : length f.fields ≤ most_names
  pub few_precs : length f.precs ≤ most_names
  pub few_productions : productions_of f ≤ most_productions
  pub few_positions : all_positions f ≤ most_positions_in_all
  pub tokens : All (IsFitToken f) f.tokens
  pub rules : (k : ℕ) (r : FlatRule) → slice_get f.rules k ≡ Some r → IsFitRule f k r
  pub separators : IsShort f.separators × All IsFitRe f.separators
  pub extras : IsShort f.extras × All (IsToken f) f.extras
  pub word : IfThere (IsToken f) f.word
  pub fields : AreShort f.fields
  pub precs : AreShort f.precs
  pub conflicts : AreShort f.conflicts
      × All (λ (set : List Symbol). All (IsSymbol f) set) f.conflicts
  pub precedences : AreShort f.precedences
      × All (λ (list : List Entry). All (IsFitEntry f) list) f.precedences
  pub supertypes : All (IsHiddenSymbol f) f.supertypes × AreRising f.supertypes
