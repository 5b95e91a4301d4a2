-- Why a grammar has no normal form, or none that can be used. What can be wrong is looked for in an
-- order, and what is found first is answered.
use Rattle.std.specs.Prelude.{◌≡◌, ℕ, slice_get, Some, ◌⊎◌, Result, Err}
use Rattle.ts_base.specs.Bytes.{Bytes}
use Rattle.ts_core.specs.declared.flat.FlatGrammar.{FlatGrammar}
use Rattle.ts_core.specs.declared.flat.FlatRule.{FlatRule}
use Rattle.ts_core.specs.declared.flat.TokenDef.{TokenDef}
use Rattle.ts_core.specs.declared.limits.Limited.TheVariants as limited
use Rattle.ts_core.specs.declared.rule.Grammar.{Grammar}
use Rattle.spec_tables.specs.Fit as fit
use Rattle.ts_form.specs.Limits.{HasManyProductions, HasManySteps, HasManyPositions}
use Rattle.ts_numbering.specs.Limits.{HasManySymbols, HasManyNames}
use Rattle.ts_fit.specs.Misfits.{IsEmptyToken, IsFirstPlace}
use Rattle.ts_pattern.specs.declared.fault.PFault.{PFault}
use Rattle.ts_pattern.specs.Reads.{Reads}
use Rattle.ts_rules.specs.Causes.{ExtraSymbol, IsUndefined, IsBadInline, IsBadWord, IsBadExtra, names_used, rule_names, extra_symbols}
use Rattle.ts_rules.specs.FirstSights.{Not, First}
use Rattle.ts_rules.specs.Names.{BeginsWith}
use Rattle.ts_rules.specs.Normal.{IsNormal}
use Rattle.ts_rules.specs.Sights.{walk, symbols_inside}
use Rattle.ts_tokens.specs.Patterns.{IsRefusedPattern, placed_patterns}
use Rattle.ts_normalise.specs.declared.fault.NFault.{NFault}
use Rattle.ts_normalise.specs.declared.fault.NFault.TheVariants as fault

-- ---- what can be wrong

-- the fault tells the first of the names that are used that no rule has
abbrev pub FindsUndefined : Grammar → NFault → Type 0
FindsUndefined g found = (name : Bytes) × First (IsUndefined g) (names_used g) name
    × (found ≡ fault.Undefined name)

-- the fault tells the first SYMBOL of the walk that stands inside a token
abbrev pub FindsSymbolInToken : Grammar → NFault → Type 0
FindsSymbolInToken g found = (name : Bytes) × BeginsWith name (symbols_inside (walk g))
    × (found ≡ fault.SymbolInToken name)

-- the fault tells the first rule, in file order, that is inlined and can't be
abbrev pub FindsBadInline : Grammar → NFault → Type 0
FindsBadInline g found = (name : Bytes) × First (IsBadInline g) (rule_names g) name
    × (found ≡ fault.BadInline name)

-- the fault tells the word, which names no token
abbrev pub FindsBadWord : Grammar → NFault → Type 0
FindsBadWord g found = (name : Bytes) × (g.word ≡ Some name) × IsBadWord g name
    × (found ≡ fault.BadWord name)

-- the fault tells the first SYMBOL of the extras that can't stand there
abbrev pub FindsBadExtra : Grammar → NFault → Type 0
FindsBadExtra g found = (symbol : ExtraSymbol) × First (IsBadExtra g) (extra_symbols g) symbol
    × (found ≡ fault.NonTerminalExtra symbol.0)

-- the fault tells the rule of the first pattern of the walk that can't be read, and why
abbrev pub FindsBadPattern : Grammar → NFault → Type 0
FindsBadPattern g found = (rule : Bytes) × (cause : PFault)
    × IsRefusedPattern (placed_patterns g) rule cause
    × (found ≡ fault.Pattern rule cause)

-- the fault tells that there are too many symbols, the end among them
abbrev pub FindsManySymbols : Grammar → NFault → Type 0
FindsManySymbols g found = HasManySymbols g × (found ≡ fault.Limit limited.Symbols)

-- the fault tells that there are too many field names, or too many precedence names
abbrev pub FindsManyNames : Grammar → NFault → Type 0
FindsManyNames g found = HasManyNames g × (found ≡ fault.Limit limited.Fields)

-- the fault tells that there are too many productions, before inlining or after it
abbrev pub FindsManyProductions : Grammar → NFault → Type 0
FindsManyProductions g found = HasManyProductions g × (found ≡ fault.Limit limited.Productions)

-- the fault tells that a production has too many steps, before inlining or after it
abbrev pub FindsManySteps : Grammar → NFault → Type 0
FindsManySteps g found = HasManySteps g × (found ≡ fault.Limit limited.Steps)

-- the fault tells that a token, or all tokens and separators, have too many positions
abbrev pub FindsManyPositions : Grammar → NFault → Type 0
FindsManyPositions g found = HasManyPositions g × (found ≡ fault.Limit limited.Positions)

-- the first token in symbol order that matches the empty text
pub record HasEmptyToken (g : Grammar) (name : Bytes) : Type 0 where
  pub form : FlatGrammar
  pub normal : IsNormal Reads g form
  pub place : ℕ
  pub first : IsFirstPlace (IsEmptyToken form) place
  pub token : TokenDef
  pub there : slice_get form.tokens place ≡ Some token
  pub name_is : name ≡ token.name

-- the first rule that may be empty where it must not; a repetition has the empty name
pub record HasEmptyRule (g : Grammar) (name : Bytes) : Type 0 where
  pub form : FlatGrammar
  pub normal : IsNormal Reads g form
  pub place : ℕ
  pub first : IsFirstPlace (fit.IsEmptyRule form) place
  pub rule : FlatRule
  pub there : slice_get form.rules place ≡ Some rule
  pub name_is : name ≡ rule.name

-- the first rule that derives itself alone; a repetition is told by its owner
pub record HasCycle (g : Grammar) (name : Bytes) : Type 0 where
  pub form : FlatGrammar
  pub normal : IsNormal Reads g form
  pub place : ℕ
  pub first : IsFirstPlace (fit.IsCyclic form) place
  pub rule : FlatRule
  pub there : slice_get form.rules place ≡ Some rule
  pub owner : FlatRule
  pub owner_there : fit.HasRule form rule.owner owner
  pub name_is : name ≡ owner.name

-- the fault tells the first token that matches the empty text
abbrev pub FindsEmptyToken : Grammar → NFault → Type 0
FindsEmptyToken g found = (name : Bytes) × HasEmptyToken g name × (found ≡ fault.EmptyToken name)

-- the fault tells the first rule that may be empty where it must not
abbrev pub FindsEmptyRule : Grammar → NFault → Type 0
FindsEmptyRule g found = (name : Bytes) × HasEmptyRule g name × (found ≡ fault.EmptyRule name)

-- the fault tells the first rule that derives itself alone
abbrev pub FindsCyclic : Grammar → NFault → Type 0
FindsCyclic g found = (name : Bytes) × HasCycle g name × (found ≡ fault.Cyclic name)

-- ---- the order

-- a cause, with what it answers
abbrev pub Cause : Type 1
Cause = NFault → Type 0

-- there is no such cause
abbrev pub Nothing : Cause → Type 0
Nothing Finds = (found : NFault) → Not (Finds found)

-- the first cause, and where there is none the second
abbrev pub Before : Cause → Cause → NFault → Type 0
Before One Other found = One found ⊎ (Nothing One × Other found)

-- the fault is what the cause answers; running out of memory has no cause
abbrev pub HasCause : Cause → NFault → Type 0
HasCause Finds found = Not (found ≡ fault.Memory) → Finds found

-- the word and the extras
abbrev pub FindsInWords : Grammar → Cause
FindsInWords g = Before (FindsBadWord g) (FindsBadExtra g)

-- what a rule tree can't be, since rules name tokens
abbrev pub FindsInRules : Grammar → Cause
FindsInRules g = Before (FindsBadInline g) (FindsInWords g)

-- in the rule trees
abbrev pub FindsInTrees : Grammar → NFault → Type 0
FindsInTrees g = Before (FindsUndefined g) (Before (FindsSymbolInToken g) (FindsInRules g))

-- in the limits
abbrev pub FindsMany : Grammar → NFault → Type 0
FindsMany g = Before (FindsManySymbols g) (Before (FindsManyNames g)
    (Before (FindsManyProductions g) (Before (FindsManySteps g) (FindsManyPositions g))))

-- in the normal form
abbrev pub FindsInForm : Grammar → NFault → Type 0
FindsInForm g = Before (FindsEmptyToken g) (Before (FindsEmptyRule g) (FindsCyclic g))

-- the grammar is refused, and for this cause
abbrev pub IsRefused : Grammar → NFault → Type 0
IsRefused g = Before (FindsInTrees g) (Before (FindsBadPattern g)
    (Before (FindsMany g) (FindsInForm g)))

-- the grammar is not refused, and this is its normal form
pub record Flattens (g : Grammar) (f : FlatGrammar) : Type 0 where
  pub normal : IsNormal Reads g f
  pub accepted : Nothing (IsRefused g)

-- the answer is the one that is due, unless memory ran out
abbrev pub IsDueAnswer : Result FlatGrammar NFault → Result FlatGrammar NFault → Type 0
IsDueAnswer due answer = Not (answer ≡ Err fault.Memory) → answer ≡ due
