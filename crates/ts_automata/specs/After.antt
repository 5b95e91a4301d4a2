-- The set of nodes that an automaton is in after it has read some characters.
use Rattle.std.specs.Prelude.{◌≡◌, ℕ, List, slice_get, Some, ◌↔◌}
use Rattle.std.specs.List.{Contains}
use Rattle.ts_automata.specs.declared.node.Node.{Node}
use Rattle.ts_automata.specs.Reads.{Takes, LeadsOver}

-- the characters lead from one of the first nodes to the node
abbrev pub LeadsToNode : List Node → List ℕ → List ℕ → ℕ → Type 0
LeadsToNode T kernel w t = (e : ℕ) × Contains kernel e × LeadsOver T e w t

-- after these characters the automaton is in the set of this number
pub record After (T : List Node) (kernel : List ℕ) (sets : List (List ℕ)) (w : List ℕ)
    (n : ℕ) : Type 0 where
  pub set : List ℕ
  pub at : slice_get sets n ≡ Some set
  pub holds : (t : ℕ) → Contains set t ↔ LeadsToNode T kernel w t

-- the characters of a class lead wherever its first one leads
abbrev pub Alike : List Node → ℕ → ℕ → Type 0
Alike T c d = (s a : ℕ) → Takes T s c a ↔ Takes T s d a
