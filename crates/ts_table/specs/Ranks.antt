-- Ranks of symbols, by which following productions of one step up comes to an end.
use Rattle.std.specs.Prelude.{◌≡◌, ℕ, zero, suc, ◌<◌, max, Bool, false, nat_eq, if◌then◌else◌, List, [], ◌∷◌, Some}
use Rattle.ts_core.specs.declared.flat.FlatGrammar.{FlatGrammar}
use Rattle.ts_core.specs.declared.flat.Production.{Production}
use Rattle.ts_core.specs.declared.flat.Step.{Step}
use Rattle.spec_grammar.specs.Symbols.{all_productions, production_at, symbol_count}

-- the steps are this symbol alone
abbrev pub is_alone : ℕ → List Step → Bool
is_alone symbol [] = false
is_alone symbol (step ∷ []) = nat_eq step.symbol.0 symbol
is_alone symbol (step ∷ next ∷ steps) = false

-- the greatest that a function has on a list
abbrev pub greatest : {X : Type 0} → (X → ℕ) → List X → ℕ
greatest f [] = 0
greatest f (x ∷ xs) = max (f x) (greatest f xs)

-- how many productions of one step lead up from a symbol, from the step to the left side, counted
-- up to a bound
abbrev pub unit_height : List (ℕ × Production) → ℕ → ℕ → ℕ
unit_height productions zero symbol = 0
unit_height productions (suc bound) symbol =
    greatest (λ p. if is_alone symbol p.1.steps then suc (unit_height productions bound p.0) else 0)
    productions

-- the rank of a symbol
abbrev pub unit_rank : FlatGrammar → ℕ → ℕ
unit_rank g symbol = unit_height (all_productions g) (symbol_count g) symbol

-- the ranks are below the bound, and where a production has one step, its left side has a lower
-- rank than that step's symbol
pub record AreUnitRanks (g : FlatGrammar) (rank : ℕ → ℕ) (most : ℕ) : Type 0 where
  pub below : (symbol : ℕ) → rank symbol < most
  pub unit : (number left : ℕ) (p : Production) (step : Step)
      → production_at g number ≡ Some (left, p)
      → p.steps ≡ step ∷ [] → rank left < rank step.symbol.0
