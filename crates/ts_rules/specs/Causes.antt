-- Why a grammar has no normal form, as far as its rule trees alone tell: a name that no rule has,
-- an inlined rule that can't be one, a word or an extra that is no token.
use Rattle.std.specs.Prelude.{◌≡◌, Bool, true, false, List, [], ◌∷◌, ◌++◌, map, Option, Some, None, ◌⊎◌}
use Rattle.std.specs.List.{Contains, flat_map}
use Rattle.ts_base.specs.Bytes.{Bytes}
use Rattle.ts_core.specs.declared.rule.Grammar.{Grammar}
use Rattle.ts_core.specs.declared.rule.Rule.{Rule}
use Rattle.ts_core.specs.declared.rule.Rule.TheOpen.{Rule-F}
use Rattle.ts_core.specs.declared.rule.Rule.TheViews.{out-Rule}
use Rattle.ts_core.specs.declared.rule.Rule.TheFolds.{fold-Rule}
use Rattle.ts_rules.specs.FirstSights.{Not}
use Rattle.ts_rules.specs.Numbers.{IsRule, IsInlined, NamesSome, start_of}
use Rattle.ts_rules.specs.Sights.{NamedRule, sights, walk, symbols_in, ranked_rules}

-- a name, where there is one
abbrev pub listed : Option Bytes → List Bytes
listed None = []
listed (Some name) = name ∷ []

-- the lists, one after another
abbrev pub merged : List (List Bytes) → List Bytes
merged = flat_map (λ (names : List Bytes). names)

-- ---- Undefined

-- the SYMBOLs of the walk, the word, and the entries of conflicts, precedences and supertypes
abbrev pub names_used : Grammar → List Bytes
names_used g = symbols_in (walk g) ++ listed g.word ++ merged g.conflicts ++ ranked_rules g
    ++ g.supertypes

-- no rule has the name
abbrev pub IsUndefined : Grammar → Bytes → Type 0
IsUndefined g name = Not (IsRule g name)

-- ---- BadInline

-- the rules that a tree steps to, outside its tokens and repetitions
abbrev pub uses_step : Rule-F (List Bytes) → List Bytes
uses_step Rule-F.Blank = []
uses_step (Rule-F.Literal text) = []
uses_step (Rule-F.Pattern value ignore_case) = []
uses_step (Rule-F.Symbol name) = name ∷ []
uses_step (Rule-F.Seq members) = merged members
uses_step (Rule-F.Choice members) = merged members
uses_step (Rule-F.Repeat content) = []
uses_step (Rule-F.Repeat1 content) = []
uses_step (Rule-F.Token content) = []
uses_step (Rule-F.ImmediateToken content) = []
uses_step (Rule-F.Field name content) = content
uses_step (Rule-F.Alias content named value) = content
uses_step (Rule-F.Prec value content) = content
uses_step (Rule-F.PrecLeft value content) = content
uses_step (Rule-F.PrecRight value content) = content
uses_step (Rule-F.PrecDynamic value content) = content

-- the rules that a whole tree steps to, outside its tokens and repetitions
abbrev pub uses : Rule → List Bytes
uses = fold-Rule (List Bytes) uses_step

-- the one rule steps to the other, which is inlined there
pub record Inlines (g : Grammar) (from to : Bytes) : Type 0 where
  pub tree : Rule
  pub is : Contains g.rules (from, tree)
  pub uses_it : Contains (uses tree) to
  pub inlined : IsInlined g to

-- the one rule comes to the other through inlined rules
pub data Leads (g : Grammar) : Bytes → Bytes → Type 0 where
  at_once : (a b : Bytes) → Inlines g a b → Leads g a b
  through : (a b c : Bytes) → Inlines g a b → Leads g b c → Leads g a c

-- an inlined rule that is the start rule, names a token, or comes back to itself
pub record IsBadInline (g : Grammar) (name : Bytes) : Type 0 where
  pub inlined : IsInlined g name
  pub cause : (start_of g.rules ≡ Some name) ⊎ (NamesSome g name ⊎ Leads g name name)

-- the names of rules, in order
abbrev pub names_of : List NamedRule → List Bytes
names_of rules = map (λ (rule : NamedRule). rule.0) rules

-- the names of all rules, in file order
abbrev pub rule_names : Grammar → List Bytes
rule_names g = names_of g.rules

-- ---- BadWord, NonTerminalExtra

-- the word names no token
abbrev pub IsBadWord : Grammar → Bytes → Type 0
IsBadWord g name = Not (NamesSome g name)

-- a SYMBOL's name, and whether the SYMBOL is the whole extra
abbrev pub ExtraSymbol : Type 0
ExtraSymbol = Bytes × Bool

-- the SYMBOLs of one extra, by its type: a SYMBOL is the whole extra, and any other has them inside
abbrev pub extra_symbols_by : Rule → Rule-F Rule → List ExtraSymbol
extra_symbols_by tree (Rule-F.Symbol name) = (name, true) ∷ []
extra_symbols_by tree layer = map (λ (name : Bytes). (name, false)) (symbols_in (sights tree))

-- the SYMBOLs of the extras, in order
abbrev pub extra_symbols : Grammar → List ExtraSymbol
extra_symbols g = flat_map (λ (tree : Rule). extra_symbols_by tree (out-Rule tree)) g.extras

-- a SYMBOL inside an extra, or a whole extra whose rule names no token
abbrev pub IsBadExtra : Grammar → ExtraSymbol → Type 0
IsBadExtra g x = (x.1 ≡ false) ⊎ Not (NamesSome g x.0)
