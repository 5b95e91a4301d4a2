-- When the productions of a grammar are within the limits. Alternatives are counted before equal
-- productions are dropped, before inlining and after it.
use Rattle.std.specs.Prelude.{◌≡◌, ℕ, ◌<◌, ◌≤◌, List, [], ◌∷◌, ◌++◌, map, length, Some, ◌⊎◌}
use Rattle.std.specs.List.{Contains}
use Rattle.ts_core.specs.declared.flat.Production.{Production}
use Rattle.spec_tables.specs.Fit.{most_productions, most_steps}
use Rattle.ts_rules.specs.declared.tree.Alternative.{Alternative}
use Rattle.ts_rules.specs.declared.tree.Tree.{Tree}
use Rattle.ts_rules.specs.Alternatives.{Alternatives, longest_of}
use Rattle.ts_rules.specs.FirstSights.{AreFirstSights}
use Rattle.ts_rules.specs.Productions.{AllBecome, production, filled, again}
use Rattle.ts_productions.specs.declared.rules.InlinedRules.{InlinedRules}
use Rattle.ts_productions.specs.declared.sources.Sources.{Sources}
use Rattle.ts_productions.specs.Flat.{aliased}
use Rattle.ts_productions.specs.Roots.{whole, inlined_at, roots_of, before_of}
use Rattle.ts_productions.specs.Sizes.{SizesHold, FullHold}

-- the symbol is replaced by the alternatives
abbrev pub IsReplacedBy : Sources → ℕ → Alternatives → Type 0
IsReplacedBy s symbol inner = inlined_at s symbol ≡ Some inner

-- what all alternatives become
abbrev pub AllGive : Sources → Alternatives → Type 0
AllGive s all = AllBecome (IsReplacedBy s) (roots_of s) all

-- there are more alternatives than may be, before inlining or after it
abbrev pub AreMany : Sources → Type 0
AreMany s = (most_productions < length (before_of s))
    ⊎ ((all : Alternatives) × AllGive s all × (most_productions < length all))

-- there are no more alternatives than may be, before inlining and after it
abbrev pub AreFewSources : Sources → Type 0
AreFewSources s = (length (before_of s) ≤ most_productions)
    × ((all : Alternatives) × AllGive s all × (length all ≤ most_productions))

-- some alternative has more steps than may be, before inlining or after it
abbrev pub SomeIsLong : Sources → Type 0
SomeIsLong s = (most_steps < longest_of (before_of s))
    ⊎ ((all : Alternatives) × AllGive s all × (most_steps < longest_of all))

-- no alternative has more steps than may be, before inlining and after it
abbrev pub AllAreShort : Sources → Type 0
AllAreShort s = (longest_of (before_of s) ≤ most_steps)
    × ((all : Alternatives) × AllGive s all × (longest_of all ≤ most_steps))

-- what is kept of the inlined rules is theirs
pub record AreInlined (s : Sources) (rules : InlinedRules) : Type 0 where
  pub sizes : SizesHold s s.order.now rules.sizes.items
  pub full : FullHold s s.order.now rules.full.items

-- the alternatives become few, and short ones
abbrev pub BecomeFew : Sources → Alternatives → Type 0
BecomeFew s xs = (all : Alternatives) → AllBecome (IsReplacedBy s) xs all
    → (length all ≤ most_productions) × (longest_of all ≤ most_steps)

-- and so does each by itself
abbrev pub EachBecomesFew : Sources → Alternatives → Type 0
EachBecomesFew s xs = (x : Alternative) → Contains xs x → BecomeFew s (x ∷ [])

-- what the alternatives become by inlining; of equal productions the first stays
pub record AreInlinedProductions (s : Sources) (xs : Alternatives)
    (found : List Production) : Type 0 where
  pub all : Alternatives
  pub become : AllBecome (IsReplacedBy s) xs all
  pub firsts : AreFirstSights (map (production (aliased s.aliases.now)) all) found

-- the productions of a repetition with that number, each half by itself
pub record AreInlinedRepeated (s : Sources) (number : ℕ) (tree : Tree)
    (found : List Production) : Type 0 where
  pub once : List Production
  pub more : List Production
  pub is : found ≡ once ++ more
  pub are_once : AreInlinedProductions s (filled (whole tree)) once
  pub are_more : AreInlinedProductions s (again number (filled (whole tree))) more
