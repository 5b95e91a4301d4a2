-- An automaton by numbered sets of nodes.
use Rattle.std.specs.Prelude.{◌≡◌, ℕ, List, length, slice_get, Some}
use Rattle.ts_automata.specs.declared.tables.SetTables.{SetTables}
use Rattle.ts_automata.specs.Sets.{EachAt, IsRow, IsFirst, sets_of, rows_of}
use Rattle.ts_automata.specs.Classes.{IsClassOf, IsCut}
use Rattle.ts_automata.specs.After.{After}

-- the tables stand for the sets of nodes of the automaton
pub record IsMachine (m : SetTables) : Type 0 where
  pub rows : EachAt (λ n row. (s : List ℕ) → slice_get (sets_of m.sets.keys) n ≡ Some s
      → IsRow m.automaton.nodes.items (sets_of m.sets.keys) s m.bounds.items row)
      (rows_of m.rows.items)
  pub row_count : length (rows_of m.rows.items) ≡ length (sets_of m.sets.keys)
  pub cut : IsCut m.automaton.nodes.items m.bounds.items
  pub ascii_count : length m.ascii.items ≡ 128
  pub ascii_class : EachAt (λ c k. IsClassOf m.bounds.items c k) m.ascii.items
  pub first : IsFirst m.automaton.nodes.items
      (sets_of m.sets.keys) m.automaton.entries.items m.first

-- how many sets there are
abbrev pub state_count : SetTables → ℕ
state_count m = length m.sets.keys

-- after these characters, read from the first nodes of all parts, the automaton is in this set
abbrev pub HasRead : SetTables → List ℕ → ℕ → Type 0
HasRead m w n = After m.automaton.nodes.items m.automaton.entries.items (sets_of m.sets.keys) w n
