-- Classes of characters, by the first character of each.
use Rattle.std.specs.Prelude.{◌≡◌, ℕ, ◌+◌, ◌-◌, ◌^◌, ◌≤◌, ◌<◌, List, slice_get, Some}
use Rattle.std.specs.List.{Contains}
use Rattle.std.specs.List.Sorted.{IsStrictlySortedBy}
use Rattle.std.specs.Ordering.{nat_cmp}
use Rattle.ts_automata.specs.declared.node.Node.{Node}
use Rattle.ts_automata.specs.declared.node.Node.TheVariants.{Take}

-- the class of the character is this one: its first character is the last bound that is not above
pub record IsClassOf (bounds : List ℕ) (c k : ℕ) : Type 0 where
  pub bound : ℕ
  pub at : slice_get bounds k ≡ Some bound
  pub low : bound ≤ c
  pub high : (next : ℕ) → slice_get bounds (k + 1) ≡ Some next → c < next

-- The bounds rise from 0, and have the first character of each range and the one past its last.
pub record IsCut (T : List Node) (bounds : List ℕ) : Type 0 where
  pub sorted : IsStrictlySortedBy nat_cmp bounds
  pub zero_in : Contains bounds 0
  pub low : (s a : ℕ) (ranges : List (ℕ × ℕ)) (range : ℕ × ℕ) → slice_get T s ≡ Some (Take ranges a)
      → Contains ranges range → Contains bounds range.0
  pub high : (s a : ℕ) (ranges : List (ℕ × ℕ)) (range : ℕ × ℕ)
      → slice_get T s ≡ Some (Take ranges a) → Contains ranges range → range.1 < 2 ^ 32 - 1
      → Contains bounds (range.1 + 1)

-- the list has the first character of the range and the one past its last
abbrev pub Bounded : ℕ × ℕ → List ℕ → Type 0
Bounded range bounds =
    Contains bounds range.0 × (range.1 < 2 ^ 32 - 1 → Contains bounds (range.1 + 1))

-- the list keeps what it has, and then has the bounds of these ranges
pub record HasBounds (Q : ℕ × ℕ → Type 0) (old new : List ℕ) : Type 0 where
  pub kept : (b : ℕ) → Contains old b → Contains new b
  pub each : (range : ℕ × ℕ) → Q range → Bounded range new

-- the range is one of the node's
pub record OfNode (node : Node) (range : ℕ × ℕ) : Type 0 where
  pub ranges : List (ℕ × ℕ)
  pub to : ℕ
  pub is : node ≡ Take ranges to
  pub member : Contains ranges range

-- the range is one of a node in the list
pub record OfNodes (T : List Node) (range : ℕ × ℕ) : Type 0 where
  pub place : ℕ
  pub node : Node
  pub at : slice_get T place ≡ Some node
  pub of_node : OfNode node range
