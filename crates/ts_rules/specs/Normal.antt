-- The normal form of a grammar: named facts about the flat grammar.
use Rattle.std.specs.Prelude.{◌≡◌, ℕ, ◌<◌, Bool, List, [], ◌++◌, map, slice_get, Some, option_map, ◌↔◌, ◌⊎◌}
use Rattle.std.specs.List.{Contains}
use Rattle.ts_base.specs.Bytes.{Bytes}
use Rattle.ts_core.specs.declared.flat.Entry.{Entry}
use Rattle.ts_core.specs.declared.flat.FlatRule.{FlatRule}
use Rattle.ts_core.specs.declared.flat.FlatGrammar.{FlatGrammar}
use Rattle.ts_core.specs.declared.re.Re.{Re}
use Rattle.ts_core.specs.declared.rule.Grammar.{Grammar}
use Rattle.ts_core.specs.declared.rule.Ranked.{Ranked}
use Rattle.ts_core.specs.declared.rule.Rule.{Rule}
use Rattle.ts_core.specs.declared.rule.Rule.TheVariants as rule
use Rattle.ts_core.specs.declared.symbol.Kind.{Kind}
use Rattle.ts_core.specs.declared.symbol.Symbol.{Symbol}
use Rattle.ts_rules.specs.FirstSights.{Not, Picks, Each, First}
use Rattle.ts_rules.specs.Numbers.{Numbers, Lists, AreLists, AreNumbers, IsInlined, alts, start_of}
use Rattle.ts_rules.specs.Productions.{AreProductions, AreRepeated, symbol}
use Rattle.ts_rules.specs.Sights.{NamedRule, Source, sights, walk, rule_sights, tokens_in, contents_in, patterns_in}
use Rattle.ts_rules.specs.Tokens.{Patterns, IsTokenDef, IsKind, tree_re}

-- ---- rules

-- a rule of the file; every such rule is its own owner
pub record IsOwnRule (g : Grammar) (n : Numbers) (x : Lists) (rule : NamedRule)
    (r : FlatRule) : Type 0 where
  pub name : r.name ≡ rule.0
  pub kind : IsKind g rule.0 r.kind
  pub owner : r.owner ≡ symbol (n.rule rule.0)
  pub productions : AreProductions n x (alts n rule.1) r.productions

-- the rule in which the content is first seen, or the start rule where that rule is inlined
abbrev pub IsOwner : Grammar → Rule → Bytes → Type 0
IsOwner g content name =
    (rule : NamedRule)
    × First (λ (r : NamedRule). Contains (contents_in (sights r.1)) content) g.rules rule
    × ((Not (IsInlined g rule.0) × (name ≡ rule.0))
    ⊎ (IsInlined g rule.0 × (start_of g.rules ≡ Some name)))

-- a repetition is hidden, and its name is empty
pub record IsRepetition (g : Grammar) (n : Numbers) (x : Lists) (content : Rule)
    (r : FlatRule) : Type 0 where
  pub name : r.name ≡ []
  pub kind : r.kind ≡ Kind.Hidden
  pub owner : (name : Bytes) × IsOwner g content name × (r.owner ≡ symbol (n.rule name))
  pub productions : AreRepeated n x content r.productions

-- ---- extras

-- a SYMBOL, or a token of the rules; any other extra is a separator
abbrev pub IsTokenExtra : Grammar → Rule → Type 0
IsTokenExtra g tree = ((name : Bytes) × (tree ≡ rule.Symbol name))
    ⊎ Contains (tokens_in (rule_sights g)) tree

-- the symbol of an extra: of the rule that a SYMBOL names, or of the token itself
abbrev pub IsExtra : Numbers → Rule → Symbol → Type 0
IsExtra n tree s = ((name : Bytes) × (tree ≡ rule.Symbol name) × (s ≡ symbol (n.rule name)))
    ⊎ (((name : Bytes) → Not (tree ≡ rule.Symbol name)) × (s ≡ symbol (n.token tree)))

-- the extras that are separators, in order
abbrev pub AreSeparators : Grammar → List Rule → Type 0
AreSeparators g trees = Picks (λ (tree : Rule). Not (IsTokenExtra g tree)) g.extras trees

-- ---- conflicts and precedences, without the inlined rules

-- the symbols of names, in order, but for those of inlined rules
abbrev pub AreSymbols : Grammar → Numbers → List Bytes → List Symbol → Type 0
AreSymbols g n names symbols =
    (kept : List Bytes) × Picks (λ (name : Bytes). Not (IsInlined g name)) names kept
    × (symbols ≡ map (λ (name : Bytes). symbol (n.rule name)) kept)

-- an entry of an ordering by numbers
abbrev pub entry : Numbers → Ranked → Entry
entry n (Ranked.Name name) = Entry.Name (n.prec name)
entry n (Ranked.Rule name) = Entry.Rule (symbol (n.rule name))

-- the entry is no inlined rule
abbrev pub IsKeptEntry : Grammar → Ranked → Type 0
IsKeptEntry g (Ranked.Name name) = Unit {0}
IsKeptEntry g (Ranked.Rule name) = Not (IsInlined g name)

-- the entries of an ordering by numbers, in order, but for inlined rules
abbrev pub AreEntries : Grammar → Numbers → List Ranked → List Entry → Type 0
AreEntries g n entries found =
    (kept : List Ranked) × Picks (IsKeptEntry g) entries kept × (found ≡ map (entry n) kept)

-- ---- supertypes

-- the symbol of a supertype that is not inlined
abbrev pub IsSupertype : Grammar → Numbers → Symbol → Type 0
IsSupertype g n s = (name : Bytes) × Contains g.supertypes name × Not (IsInlined g name)
    × (s ≡ symbol (n.rule name))

-- each symbol is above the one before it
abbrev pub Rising : List Symbol → Type 0
Rising symbols = (j k : ℕ) (a b : Symbol) → j < k → slice_get symbols j ≡ Some a
    → slice_get symbols k ≡ Some b
    → a.0 < b.0

-- ---- the whole

-- how a pattern's source, with or without the flag i, is read: the meaning of patterns, which is
-- told elsewhere
abbrev pub Reading : Type 1
Reading = Bytes → Bool → Re → Type 0

-- each pattern of the grammar means what it reads as
abbrev pub ArePatterns : Reading → Grammar → Patterns → Type 0
ArePatterns Reads g pattern = (source : Source) → Contains (patterns_in (walk g)) source
    → Reads source.0 source.1 (pattern source.0 source.1)

-- the flat grammar is the grammar's normal form
pub record IsNormal (Reads : Reading) (g : Grammar) (f : FlatGrammar) : Type 0 where
  pub numbers : Numbers
  pub lists : Lists
  pub pattern : Patterns
  pub are_lists : AreLists g lists
  pub are_numbers : AreNumbers g numbers lists
  pub are_patterns : ArePatterns Reads g pattern
  pub own : List FlatRule
  pub repetitions : List FlatRule
  pub name : f.name ≡ g.name
  pub tokens : Each (IsTokenDef pattern g) lists.tokens f.tokens
  pub rules : f.rules ≡ own ++ repetitions
  pub are_own : Each (IsOwnRule g numbers lists) lists.rules own
  pub are_repetitions : Each (IsRepetition g numbers lists) lists.contents repetitions
  pub separators : (trees : List Rule) × AreSeparators g trees
      × (f.separators ≡ map (tree_re pattern) trees)
  pub extras : (trees : List Rule) × Picks (IsTokenExtra g) g.extras trees
      × Each (IsExtra numbers) trees f.extras
  pub word : f.word ≡ option_map (λ (name : Bytes). symbol (numbers.rule name)) g.word
  pub fields : f.fields ≡ lists.fields
  pub precs : f.precs ≡ lists.precs
  pub conflicts : Each (AreSymbols g numbers) g.conflicts f.conflicts
  pub precedences : Each (AreEntries g numbers) g.precedences f.precedences
  pub supertypes : (s : Symbol) → Contains f.supertypes s ↔ IsSupertype g numbers s
  pub supertypes_rise : Rising f.supertypes
