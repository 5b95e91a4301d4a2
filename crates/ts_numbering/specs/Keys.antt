-- Lists of trees and of rules that are lent, as the code has them.
use Rattle.std.specs.Prelude.{◌≡◌, ℕ, ◌<◌, slice_get, Bool, List, [], ◌∷◌, map, filter, Option, Some, None}
use Rattle.std.specs.Borrow.{Bor}
use Rattle.std.specs.List.{Contains, flat_map}
use Rattle.ts_base.specs.Bytes.{Bytes}
use Rattle.ts_core.specs.declared.flat.Alias.{Alias}
use Rattle.ts_core.specs.declared.rule.Rule.{Rule}
use Rattle.ts_rules.specs.FirstSights.{Not, AreFirstSights, Once}
use Rattle.ts_rules.specs.Numbers.{has_steps, tree_of, unnumbered}
use Rattle.ts_rules.specs.Sights.{NamedRule, Sight, content_at, alias}

-- the trees themselves
abbrev pub trees : List (Bor Rule) → List Rule
trees = map (λ (tree : Bor Rule). tree.now)

-- a tree, where there is one
abbrev pub told_tree : Option (Bor Rule) → List Rule
told_tree None = []
told_tree (Some tree) = tree.now ∷ []

-- the rules themselves
abbrev pub rules_told : List (Bor Bytes × Bor Rule) → List NamedRule
rules_told = map (λ (entry : Bor Bytes × Bor Rule). (entry.0.now, entry.1.now))

-- the aliases themselves
abbrev pub aliases_told : List (Bor Bytes × Bool) → List Alias
aliases_told = map (λ (entry : Bor Bytes × Bool). alias entry.0.now entry.1)

-- an alias, where there is one
abbrev pub told_alias : Option (Bor Bytes × Bool) → List Alias
told_alias None = []
told_alias (Some entry) = alias entry.0.now entry.1 ∷ []

-- ---- repeated contents

-- a content with a non-empty alternative, as a test
abbrev pub is_repeated : Rule → Bool
is_repeated content = has_steps (tree_of unnumbered content)

-- a content of a REPEAT or REPEAT1 outside tokens, where it is repeated
abbrev pub repeated_at : Rule → Bool → List Rule
repeated_at tree inside = filter is_repeated (content_at tree inside)

-- all repeated contents that are seen, in order
abbrev pub repeated_in : List Sight → List Rule
repeated_in = flat_map (λ (sight : Sight). repeated_at sight.tree sight.inside)

-- ---- tokens that stand once

-- the value stands at two places
abbrev pub Twice : {X : Type 0} → List X → X → Type 0
Twice xs x = (j k : ℕ) × (j < k) × (slice_get xs j ≡ Some x) × (slice_get xs k ≡ Some x)

-- the lists have each of the tokens that were seen, by first sight, and those of them that stand
-- more than once
pub record AreSeenTokens (seen tokens repeats : List Rule) : Type 0 where
  pub first : AreFirstSights seen tokens
  pub again : (tree : Rule) → Contains repeats tree → Twice seen tree
  pub once : (tree : Rule) → Contains seen tree → Not (Contains repeats tree) → Once seen tree
