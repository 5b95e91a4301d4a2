-- Conflicts, and those that a grammar declares.
use Rattle.std.specs.Prelude.{◌≡◌, ℕ, ◌<◌, ◌≤◌, ◌⊎◌, ◌↔◌, List, [], ◌∷◌, slice_get, Some, option_map, unwrap_or}
use Rattle.std.specs.List.{Contains}
use Rattle.ts_core.specs.declared.symbol.Symbol.{Symbol}
use Rattle.ts_core.specs.declared.flat.FlatGrammar.{FlatGrammar}
use Rattle.spec_grammar.specs.Symbols.{symbol_rule}
use Rattle.spec_tables.specs.Items.{Item}
use Rattle.spec_tables.specs.Actions.{Move, shift, reduce, Act, Remains, ShiftItem, rule_in}

-- more than one move stays on the token after these symbols
pub record Conflicts (g : FlatGrammar) (read : List ℕ) (token : ℕ) : Type 0 where
  pub one : Move
  pub other : Move
  pub one_stays : Act g read token one
  pub other_stays : Act g read token other
  pub apart : one ≡ other → ⊥

-- the owner of a symbol's productions: a repetition's is the rule in which it stands
abbrev pub owner_of : FlatGrammar → ℕ → ℕ
owner_of g symbol = unwrap_or (option_map (λ rule. rule.owner.0) (symbol_rule g symbol)) symbol

-- The rule has a part in the conflict: it owns a reduction that stays, or a shift item where the
-- shift stays.
pub data TakesPart (g : FlatGrammar) (read : List ℕ) (token : ℕ) : ℕ → Type 0 where
  by_reduction : (i : Item) (number : ℕ) → Remains g read token i → i.line ≡ Some number
      → Act g read token (reduce number)
      → TakesPart g read token (owner_of g (rule_in g i.line))
  by_shift : (i : Item) → ShiftItem g read token i → Act g read token shift
      → TakesPart g read token (owner_of g (rule_in g i.line))

-- the list has just the rules that take part
abbrev pub AreRules : FlatGrammar → List ℕ → ℕ → List Symbol → Type 0
AreRules g read token rules = (s : ℕ) → TakesPart g read token s ↔ Contains rules (record { 0 = s })

-- the set of the conflict's rules is one that the grammar declares
abbrev pub IsDeclared : FlatGrammar → List ℕ → ℕ → Type 0
IsDeclared g read token =
    (rules : List Symbol) × Contains g.conflicts rules × AreRules g read token rules

-- every conflict is declared
abbrev pub AreDeclared : FlatGrammar → Type 0
AreDeclared g = (read : List ℕ) (token : ℕ) → Conflicts g read token → IsDeclared g read token

-- ---- the conflict that a refusal names

-- each symbol is above the one before it
abbrev pub AreRisingRules : List Symbol → Type 0
AreRisingRules rules = (j k : ℕ) (a b : Symbol) → j < k → slice_get rules j ≡ Some a
    → slice_get rules k ≡ Some b → a.0 < b.0

-- a conflict on this token with just these rules, rising, is not declared
pub record IsUndeclared (g : FlatGrammar) (token : ℕ) (rules : List Symbol) : Type 0 where
  pub read : List ℕ
  pub conflicts : Conflicts g read token
  pub rules_are : AreRules g read token rules
  pub rise : AreRisingRules rules
  pub undeclared : IsDeclared g read token → ⊥

-- the first list comes before the second, compared symbol by symbol, or they are one list
abbrev pub NotAfter : List Symbol → List Symbol → Type 0
NotAfter [] ys = Unit {0}
NotAfter (x ∷ xs) [] = ⊥
NotAfter (x ∷ xs) (y ∷ ys) = (x.0 < y.0) ⊎ ((x.0 ≡ y.0) × NotAfter xs ys)

-- of the undeclared conflicts the one of the least token, and of these the one of the least rules
pub record IsFirstUndeclared (g : FlatGrammar) (token : ℕ) (rules : List Symbol) : Type 0 where
  pub undeclared : IsUndeclared g token rules
  pub least_token : (t : ℕ) (rs : List Symbol) → IsUndeclared g t rs → token ≤ t
  pub least_rules : (rs : List Symbol) → IsUndeclared g token rs → NotAfter rules rs
