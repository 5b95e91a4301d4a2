-- The rule trees that a grammar's productions are made of.
use Rattle.std.specs.Prelude.{◌≡◌, ℕ, ◌+◌, ◌<◌, ◌≤◌, suc, List, [], ◌∷◌, ◌++◌, map, length, take, slice_get, Option, Some}
use Rattle.std.specs.List.{Contains, flat_map}
use Rattle.ts_rules.specs.declared.tree.Alternative.{Alternative}
use Rattle.ts_rules.specs.declared.tree.NumberedStep.{NumberedStep}
use Rattle.ts_rules.specs.declared.tree.Tree.{Tree}
use Rattle.ts_rules.specs.Alternatives.{Alternatives, alternatives_of}
use Rattle.ts_rules.specs.Numbers.{outermost}
use Rattle.ts_rules.specs.Productions.{filled, again}
use Rattle.ts_productions.specs.declared.sources.Sources.{Sources}
use Rattle.ts_productions.specs.Expansions.{entry_at}

-- the alternatives of a whole rule
abbrev pub whole : Tree → Alternatives
whole tree = alternatives_of tree outermost

-- what a place among the inlined rules steps to, as far as that is inlined too
pub record StepsTo (s : Sources) (from to : ℕ) : Type 0 where
  pub tree : Tree
  pub is : slice_get s.inlined.now from ≡ Some tree
  pub alternative : Alternative
  pub has : Contains (whole tree) alternative
  pub step : NumberedStep
  pub steps : Contains alternative.steps step
  pub symbol : step.symbol ≡ s.first_inlined + to
  pub there : to < length s.inlined.now

-- the order has the places of all inlined rules, and before each those of the inlined rules that it
-- steps to; the symbols of the repetitions are below those of the inlined rules
pub record AreOrderedSources (s : Sources) : Type 0 where
  pub within : (k : ℕ) → Contains s.order.now k → k < length s.inlined.now
  pub every : (k : ℕ) → k < length s.inlined.now → Contains s.order.now k
  pub before : (place from to : ℕ) → slice_get s.order.now place ≡ Some from → StepsTo s from to
      → Contains (take place s.order.now) to
  pub apart : s.first_repetition + length s.contents.now ≤ s.first_inlined

-- ---- the alternatives of all of them

-- the alternatives of whole rules, one after another
abbrev pub whole_all : List Tree → Alternatives
whole_all = flat_map whole

-- the alternatives of whole rules, without those that are empty
abbrev pub filled_all : List Tree → Alternatives
filled_all = flat_map (λ (tree : Tree). filled (whole tree))

-- the alternatives of repetitions by their contents, from a number of a repetition on
abbrev pub repeated_all : ℕ → List Tree → Alternatives
repeated_all number [] = []
repeated_all number (tree ∷ rest) = (filled (whole tree) ++ again number (filled (whole tree)))
    ++ repeated_all (suc number) rest

-- the alternatives of all rules and repetitions
abbrev pub roots_of : Sources → Alternatives
roots_of s = whole_all s.rules.now ++ repeated_all s.first_repetition s.contents.now

-- the alternatives of the inlined rules, and then those of all rules and repetitions
abbrev pub before_of : Sources → Alternatives
before_of s = whole_all s.inlined.now ++ roots_of s

-- what replaces a symbol
abbrev pub inlined_at : Sources → ℕ → Option Alternatives
inlined_at s = entry_at s.first_inlined (map whole s.inlined.now)
