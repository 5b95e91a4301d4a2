-- The rules of conflicts, and which conflict is the least.
use Rattle.std.specs.Prelude.{◌≡◌, ℕ, ◌<◌, ◌≤◌, ◌⊎◌, List, map, Option, Some, MatchOption, ◌↔◌}
use Rattle.std.specs.Global.{Vec}
use Rattle.std.specs.List.{Contains}
use Rattle.ts_core.specs.declared.symbol.Symbol.{Symbol}
use Rattle.ts_core.specs.declared.flat.FlatGrammar.{FlatGrammar}
use Rattle.spec_tables.specs.Conflicts.{Conflicts, AreRules, AreRisingRules, IsDeclared, NotAfter, owner_of}
use Rattle.ts_table.specs.declared.candidates.Candidate.{Candidate}
use Rattle.ts_table.specs.declared.cells.Cell.{Cell}
use Rattle.ts_table.specs.declared.refusals.Refusal.{Refusal}

-- the owners of the rules of candidates
abbrev pub owners_in : FlatGrammar → List Candidate → List Symbol
owners_in g cs = map (λ c. record { 0 = owner_of g c.weight.rule }) cs

-- these are the rules that take part in what stays, rising
pub record AreRulesOf (g : FlatGrammar) (cell : Cell) (rules : List Symbol) : Type 0 where
  pub members : (s : Symbol) → Contains rules s
      ↔ (Contains (owners_in g cell.reductions.items) s
      ⊎ Contains (owners_in g cell.shifts.items) s)
  pub rise : AreRisingRules rules

-- the same symbols rising, each once
pub record AreRisen (old new : List Symbol) : Type 0 where
  pub members : (s : Symbol) → Contains new s ↔ Contains old s
  pub rise : AreRisingRules new

-- the two lists have the same symbols
abbrev pub AreSameSymbols : List Symbol → List Symbol → Type 0
AreSameSymbols a b = (s : Symbol) → Contains a s ↔ Contains b s

-- one of the sets has the same symbols
abbrev pub IsOneOf : List (List Symbol) → List Symbol → Type 0
IsOneOf sets rules = (set : List Symbol) × Contains sets set × AreSameSymbols set rules

-- by the number of actions, the rules are those of a conflict that is not declared, or there is
-- none
abbrev pub IsRefusedBy : FlatGrammar → Cell → ℕ → Option (Vec Symbol) → Type 0
IsRefusedBy g cell actions refused =
    MatchOption refused
    ((actions < 2) ⊎ ((rules : List Symbol) × AreRulesOf g cell rules × IsOneOf g.conflicts rules))
    (λ rules. (2 ≤ actions) × AreRulesOf g cell rules.items × (IsOneOf g.conflicts rules.items → ⊥))

-- after these symbols the conflict on the token is not declared, and these are its rules, rising
pub record IsUndeclaredAt (g : FlatGrammar) (read : List ℕ) (token : ℕ)
    (rules : List Symbol) : Type 0 where
  pub conflicts : Conflicts g read token
  pub rules_are : AreRules g read token rules
  pub rise : AreRisingRules rules
  pub undeclared : IsDeclared g read token → ⊥

-- the first comes before the second, by token and then by rules, or they are one
abbrev pub ComesFirst : ℕ → List Symbol → ℕ → List Symbol → Type 0
ComesFirst t rules u others = (t < u) ⊎ ((t ≡ u) × NotAfter rules others)

-- the refusal is the old or the new one, and comes first of both
pub record IsLesser (old : Option Refusal) (token : ℕ) (rules : List Symbol)
    (r : Refusal) : Type 0 where
  pub one : ((r.token ≡ token) × (r.rules.items ≡ rules)) ⊎ (old ≡ Some r)
  pub new : ComesFirst r.token r.rules.items token rules
  pub before : (o : Refusal) → old ≡ Some o
      → ComesFirst r.token r.rules.items o.token o.rules.items
