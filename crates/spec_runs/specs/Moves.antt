-- Where moves stand: what was read where a move stays on a token.
use Rattle.std.specs.Prelude.{◌≡◌, ℕ, List, ◌∷◌, ◌++◌, reverse, Some}
use Rattle.ts_core.specs.declared.flat.FlatGrammar.{FlatGrammar}
use Rattle.ts_core.specs.declared.flat.Production.{Production}
use Rattle.ts_core.specs.declared.flat.Step.{Step}
use Rattle.spec_grammar.specs.Symbols.{production_at}
use Rattle.spec_tables.specs.Items.{Item, IsBefore, Valid}
use Rattle.spec_trees.specs.Made.{step_symbols}

-- some item that is valid after these symbols has its dot before the symbol
abbrev pub StandsBefore : FlatGrammar → List ℕ → ℕ → Type 0
StandsBefore g read symbol =
    (i : Item) × (step : Step) × Valid g read i × IsBefore g i step × (step.symbol.0 ≡ symbol)

-- What was read ends with the steps of the production, and after what was read before them an item
-- stands before the symbol of its rule.
pub record EndsWithProduction (g : FlatGrammar) (read : List ℕ) (number : ℕ) : Type 0 where
  pub left : ℕ
  pub production : Production
  pub at : production_at g number ≡ Some (left, production)
  pub earlier : List ℕ
  pub read_is : read ≡ reverse (step_symbols production) ++ earlier
  pub before : StandsBefore g earlier left

-- The first step of a production is its rule's symbol itself, and others follow.
pub record RepeatsItself (left : ℕ) (production : Production) : Type 0 where
  pub next : ℕ
  pub others : List ℕ
  pub steps_are : step_symbols production ≡ left ∷ next ∷ others

-- no production has the symbol among its steps
abbrev pub IsUnused : FlatGrammar → ℕ → Type 0
IsUnused g symbol =
    (number left : ℕ) (p : Production) → production_at g number ≡ Some (left, p)
    → (before after : List ℕ) → step_symbols p ≡ before ++ symbol ∷ after → ⊥
