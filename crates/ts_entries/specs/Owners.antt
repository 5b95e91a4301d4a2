-- The rules to which repetitions belong.
use Rattle.std.specs.Prelude.{◌≡◌, ◌⊎◌, ℕ, ◌-◌, List, map, length, slice_get, Some}
use Rattle.std.specs.List.{Contains}
use Rattle.ts_base.specs.Bytes.{Bytes}
use Rattle.ts_core.specs.declared.rule.Grammar.{Grammar}
use Rattle.ts_core.specs.declared.rule.Rule.{Rule}
use Rattle.ts_core.specs.declared.symbol.Symbol.{Symbol}
use Rattle.ts_numbering.specs.Keys.{repeated_in}
use Rattle.ts_rules.specs.FirstSights.{Not, First}
use Rattle.ts_rules.specs.Normal.{IsOwner}
use Rattle.ts_rules.specs.Numbers.{Numbers, Lists, IsInlined, first_repetition, start_of}
use Rattle.ts_rules.specs.Productions.{symbol}
use Rattle.ts_rules.specs.Sights.{NamedRule, sights, contents_in}

-- the symbol of the rule to which the repetition of a content belongs
abbrev pub IsOwnerSymbol : Grammar → Numbers → Rule → Symbol → Type 0
IsOwnerSymbol g n content s =
    (name : Bytes) × IsOwner g content name × (s ≡ symbol (n.rule name))

-- ---- serves private clauses and proofs alone

-- the content stands in the rule
abbrev pub HoldsContent : Rule → NamedRule → Type 0
HoldsContent content rule = Contains (contents_in (sights rule.1)) content

-- the rule to which a rule's repetitions belong: that rule, or the start rule where it is inlined
abbrev pub IsChosen : Grammar → Bytes → Bytes → Type 0
IsChosen g name owner = (Not (IsInlined g name) × (owner ≡ name))
    ⊎ (IsInlined g name × (start_of g.rules ≡ Some owner))

-- the symbol of the rule to which a rule's repetitions belong
abbrev pub IsChosenSymbol : Grammar → Numbers → Bytes → Symbol → Type 0
IsChosenSymbol g n name s =
    (owner : Bytes) × IsChosen g name owner × (s ≡ symbol (n.rule owner))

-- a content's place
abbrev pub content_place : Numbers → Lists → Rule → ℕ
content_place n x content = n.repetition content - first_repetition x

-- the places of the repeated contents of a tree
abbrev pub places_in : Numbers → Lists → Rule → List ℕ
places_in n x tree = map (content_place n x) (repeated_in (sights tree))

-- each content has the symbol of the rule to which the repetitions of the first rule with it belong
pub record AreOwners (g : Grammar) (n : Numbers) (x : Lists) (rules : List NamedRule)
    (owners : List Symbol) : Type 0 where
  pub count : length owners ≡ length x.contents
  pub each : (k : ℕ) (content : Rule) (rule : NamedRule) → slice_get x.contents k ≡ Some content
      → First (HoldsContent content) rules rule
      → (s : Symbol) × (slice_get owners k ≡ Some s) × IsChosenSymbol g n rule.0 s

-- the owner is put at the places, and all else stays
pub record AreOwned (places : List ℕ) (owner : Symbol) (old new : List Symbol) : Type 0 where
  pub count : length new ≡ length old
  pub each : (k : ℕ) (s : Symbol) → slice_get new k ≡ Some s
      → (Contains places k × (s ≡ owner)) ⊎ (Not (Contains places k) × (slice_get old k ≡ Some s))
