-- Nodes that are marked, in a list that has each once.
use Rattle.std.specs.Prelude.{◌≡◌, ℕ, ◌<◌, Bool, true, List, slice_get, Some, ◌↔◌, nat_eq}
use Rattle.std.specs.List.{Contains, IsDistinct, list_any}
use Rattle.ts_automata.specs.declared.node.Node.{Node}
use Rattle.ts_automata.specs.Reads.{Splits}

-- the marked nodes are those of the list, which has each once
pub record AreMarked (marks : List Bool) (members : List ℕ) : Type 0 where
  pub marked : (k : ℕ) → (slice_get marks k ≡ Some true) ↔ Contains members k
  pub distinct : IsDistinct nat_eq members

-- the marks tell what the list has
abbrev pub TellMembers : List Bool → List ℕ → Type 0
TellMembers marks members =
    (k : ℕ) → (slice_get marks k ≡ Some true) ↔ (list_any (nat_eq k) members ≡ true)

-- it is so, and the number is below the room
abbrev pub InRoom : ℕ → (ℕ → Type 0) → ℕ → Type 0
InRoom room P i = P i × (i < room)

-- the first node goes on to the other, for which there is room
abbrev pub Onwards : List Node → ℕ → ℕ → ℕ → Type 0
Onwards T room i = InRoom room (Splits T i)
