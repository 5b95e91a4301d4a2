-- What the nodes of a token or a separator read.
use Rattle.std.specs.Prelude.{◌≡◌, ℕ, ◌≤◌, ◌<◌, List, length, slice_get, Some}
use Rattle.spec_lexing.specs.Words.{Regular, Word, Front}
use Rattle.ts_automata.specs.declared.node.Node.{Node}
use Rattle.ts_automata.specs.Reads.{LeadsOver, IsEnd}
use Rattle.ts_automata.specs.Grows.{Agrees}

-- From the node exactly the words of the expression lead to an end, and exactly its fronts lead
-- anywhere. All the nodes to which they lead are the expression's own.
pub record IsPart (T : List Node) (Own : ℕ → Type 0) (p : Regular) (e : ℕ) : Type 0 where
  pub word : (w : List ℕ) → Word p w → (t : ℕ) × LeadsOver T e w t × IsEnd T t
  pub ends : (w : List ℕ) (t : ℕ) → LeadsOver T e w t → IsEnd T t → Word p w
  pub front : (w : List ℕ) → Front p w → (t : ℕ) × LeadsOver T e w t
  pub leads : (w : List ℕ) (t : ℕ) → LeadsOver T e w t → Front p w
  pub own : (w : List ℕ) (t : ℕ) → LeadsOver T e w t → Own t

-- nodes were added, and the node reads the expression by them
pub record HasPart (old new : List Node) (p : Regular) (e : ℕ) : Type 0 where
  pub longer : length old ≤ length new
  pub kept : (j : ℕ) → j < length old → slice_get new j ≡ slice_get old j
  pub part : (T : List Node) → Agrees (length old) new T
      → IsPart T (λ t. (length old ≤ t) × (t < length new)) p e

-- each part has its first node, and each node its part
pub record AreParts (nodes : List Node) (owners entries : List ℕ)
    (parts : List Regular) : Type 0 where
  pub count : length entries ≡ length parts
  pub owned : length owners ≡ length nodes
  pub part : (k e : ℕ) (p : Regular) → slice_get entries k ≡ Some e → slice_get parts k ≡ Some p
      → IsPart nodes (λ t. slice_get owners t ≡ Some k) p e

-- the same of longer lists too, while nodes are added
pub record HaveParts (nodes : List Node) (owners entries : List ℕ)
    (parts : List Regular) : Type 0 where
  pub count : length entries ≡ length parts
  pub owned : length owners ≡ length nodes
  pub part : (k e : ℕ) (p : Regular) → slice_get entries k ≡ Some e → slice_get parts k ≡ Some p
      → (T : List Node) (O : List ℕ) → Agrees 0 nodes T → Agrees 0 owners O
      → IsPart T (λ t. slice_get O t ≡ Some k) p e

-- the list has so many entries: what it had, and then this number
pub record Fills (old new : List ℕ) (count part : ℕ) : Type 0 where
  pub size : length new ≡ count
  pub kept : (j : ℕ) → j < length old → slice_get new j ≡ slice_get old j
  pub filled : (j : ℕ) → length old ≤ j → j < count → slice_get new j ≡ Some part
