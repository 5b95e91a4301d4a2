-- Why a rule can't be inlined, and ranks of the rules along inlining.
use Rattle.std.specs.Prelude.{◌≡◌, ◌↔◌, ◌⊎◌, ℕ, ◌<◌, Bool, List, [], ◌∷◌, length, slice_get, Option, Some, None}
use Rattle.std.specs.Borrow.{Bor}
use Rattle.std.specs.HashMap.{HashMap, get}
use Rattle.std.specs.List.{Contains}
use Rattle.std.specs.Str.{bytes_eq}
use Rattle.ts_base.specs.Bytes.{Bytes}
use Rattle.ts_core.specs.declared.rule.Grammar.{Grammar}
use Rattle.ts_rules.specs.Causes.{IsBadInline, Inlines, names_of, rule_names, uses}
use Rattle.ts_rules.specs.FirstSights.{First}
use Rattle.ts_rules.specs.Numbers.{NamesSome, start_of}
use Rattle.ts_rules.specs.Sights.{NamedRule}
use Rattle.ts_tokens.specs.declared.inlining.InlineFault.{InlineFault}
use Rattle.ts_tokens.specs.declared.inlining.InlineFault.TheVariants as fault

-- each rule has a rank, in file order; it is above the ranks of the inlined rules to which the rule
-- steps
pub record AreInlineRanks (g : Grammar) (ranks : List ℕ) : Type 0 where
  pub one_each : length ranks ≡ length g.rules
  pub falls : (j k high low : ℕ) (a b : NamedRule) → slice_get g.rules j ≡ Some a
      → slice_get g.rules k ≡ Some b → Inlines g a.0 b.0 → slice_get ranks j ≡ Some high
      → slice_get ranks k ≡ Some low → low < high

-- why the inlined rules are refused; running out of memory has no cause
abbrev pub IsInlineFault : Grammar → InlineFault → Type 0
IsInlineFault g (fault.Bad name) = First (IsBadInline g) (rule_names g) name
IsInlineFault g fault.Memory = Unit {0}

-- ---- as the code has them; these serve private clauses and proofs alone

-- the start rule, or a rule that names a token
abbrev pub IsDirect : Grammar → Bytes → Type 0
IsDirect g name = (start_of g.rules ≡ Some name) ⊎ NamesSome g name

-- a map from names to their places
abbrev pub Places : Type 0 → Type 0
Places S = HashMap (Bor Bytes) ℕ S

-- whether two lent names are the same
abbrev pub lent_eq : Bor Bytes → Bor Bytes → Bool
lent_eq a b = bytes_eq a.now b.now

-- the places of the names that are listed
pub record ArePlaces {S : Type 0} (names inline : List Bytes) (places : Places S) : Type 0 where
  pub sound : (q : Bor Bytes) (k : ℕ) → get lent_eq places q ≡ Some k
      → (slice_get names k ≡ Some q.now) × Contains inline q.now
  pub every : (q : Bor Bytes) (k : ℕ) → slice_get names k ≡ Some q.now → Contains inline q.now
      → (p : ℕ) × (get lent_eq places q ≡ Some p)

-- no two of the names are the same
abbrev pub NamesApart : List Bytes → Type 0
NamesApart names = (j k : ℕ) (name : Bytes) → slice_get names j ≡ Some name
    → slice_get names k ≡ Some name → j ≡ k

-- the name at the place is listed, and used
abbrev pub IsTarget : List Bytes → List Bytes → List Bytes → ℕ → Type 0
IsTarget names inline used k =
    (name : Bytes) × Contains used name × Contains inline name × (slice_get names k ≡ Some name)

-- a place, where there is one
abbrev pub place_list : Option ℕ → List ℕ
place_list (Some place) = place ∷ []
place_list None = []

-- each rule goes to the inlined rules to which its tree steps
pub record IsRuleGraph (rules : List NamedRule) (inline : List Bytes) (n : ℕ)
    (graph : List (List ℕ)) : Type 0 where
  pub size : length graph ≡ n
  pub row : (k : ℕ) (rule : NamedRule) (row : List ℕ) → slice_get rules k ≡ Some rule
      → slice_get graph k ≡ Some row
      → (j : ℕ) → Contains row j ↔ IsTarget (names_of rules) inline (uses rule.1) j
