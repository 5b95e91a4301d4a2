-- The word token of a grammar, as a matcher of whole texts.
use Rattle.std.specs.Prelude.{◌≡◌, ℕ, List, [], ◌∷◌, length}
use Rattle.std.specs.List.{Contains}
use Rattle.spec_lexing.specs.Words.{Regular}
use Rattle.ts_automata.specs.declared.automaton.Automaton.{Automaton}
use Rattle.ts_automata.specs.declared.node.Node.{Node}
use Rattle.ts_automata.specs.declared.walk.Walk.{Walk}
use Rattle.ts_automata.specs.Parts.{AreParts}
use Rattle.ts_automata.specs.Reads.{IsEnd}
use Rattle.ts_automata.specs.Walks.{walk_room}

-- the automaton reads the words of the one expression
abbrev pub IsWordAutomaton : Regular → Automaton → Type 0
IsWordAutomaton p a = AreParts a.nodes.items a.owners.items a.entries.items (p ∷ [])

-- the walk has room for exactly the nodes of the automaton
abbrev pub HasRoomFor : Automaton → Walk → Type 0
HasRoomFor a walk = walk_room walk ≡ length a.nodes.items

-- a word ends at one of the nodes
pub record HasEnd (nodes : List Node) (members : List ℕ) : Type 0 where
  pub node : ℕ
  pub member : Contains members node
  pub ends : IsEnd nodes node
