-- What the parts of the search for misfits answer.
use Rattle.std.specs.Prelude.{◌≡◌, ℕ, ◌<◌, List, [], ◌∷◌, ◌++◌, map, Option, Some, None, slice_get, length}
use Rattle.std.specs.List.{Any, Contains}
use Rattle.ts_core.specs.declared.flat.FlatGrammar.{FlatGrammar}
use Rattle.ts_core.specs.declared.flat.FlatRule.{FlatRule}
use Rattle.ts_core.specs.declared.flat.Production.{Production}
use Rattle.ts_core.specs.declared.flat.Step.{Step}
use Rattle.ts_core.specs.declared.symbol.Symbol.{Symbol}
use Rattle.spec_tables.specs.Fit.{Alone, HasRule, Never, again_after, rule_symbol}

-- some step is the symbol
abbrev pub HasStep : Symbol → List Step → Type 0
HasStep s steps = Any (λ (step : Step). step.symbol ≡ s) steps

-- some step of some production is the symbol
abbrev pub HasStepAmong : Symbol → List Production → Type 0
HasStepAmong s productions = Any (λ (p : Production). HasStep s p.steps) productions

-- the symbol is that of the rule at this place, or of none where there is no place
abbrev pub IsRuleAt : FlatGrammar → Symbol → Option ℕ → Type 0
IsRuleAt f s None = (r : FlatRule) → Never (HasRule f s r)
IsRuleAt f s (Some place) = (r : FlatRule) × (slice_get f.rules place ≡ Some r)
    × (s ≡ rule_symbol f place)

-- a production of the rule at the one place is the rule at the other place alone
abbrev pub LeadsAlone : FlatGrammar → ℕ → ℕ → Type 0
LeadsAlone f from to = Alone f (rule_symbol f from) (rule_symbol f to) × (to < length f.rules)

-- the rule's owner is a rule that is no repetition
abbrev pub HasOwner : FlatGrammar → FlatRule → Type 0
HasOwner f r = (o : FlatRule) × HasRule f r.owner o × (o.owner ≡ r.owner)

-- the productions are at least one, and then the same ones after the symbol
pub record RepeatsContents (s : Symbol) (productions : List Production) : Type 0 where
  pub contents : List Production
  pub some_content : Never (contents ≡ [])
  pub is : productions ≡ contents ++ map (again_after s) contents

-- the production is one step, and that is the rule at this place
abbrev pub LeadsTo : FlatGrammar → Production → ℕ → Type 0
LeadsTo f p place = (step : Step) × (r : FlatRule) × (p.steps ≡ step ∷ [])
    × (slice_get f.rules place ≡ Some r) × (step.symbol ≡ rule_symbol f place)

-- where the production leads, if it leads anywhere
abbrev pub IsLed : FlatGrammar → Production → Option ℕ → Type 0
IsLed f p None = (place : ℕ) → Never (LeadsTo f p place)
IsLed f p (Some place) = LeadsTo f p place

-- the list goes on with elements of this kind, and has them all
pub record Adds {X : Type 0} (P : X → Type 0) (old new : List X) : Type 0 where
  pub more : List X
  pub is : new ≡ old ++ more
  pub only : (i : X) → Contains more i → P i
  pub added : (i : X) → P i → Contains new i

-- the least set with these elements that has what its elements ask for
pub data Least {X : Type 0} (Asks : X → X → Type 0) (from : List X) : X → Type 0 where
  given : (i : X) → Contains from i → Least Asks from i
  asked : (i j : X) → Least Asks from i → Asks i j → Least Asks from j
