-- The two ways of lexing: by the tables of a machine, or from node to node.
use Rattle.std.specs.Prelude.{◌≡◌, ℕ, ◌<◌, List, length, slice_get, Option, Some, None}
use Rattle.ts_core.specs.declared.flat.FlatGrammar.{FlatGrammar}
use Rattle.ts_core.specs.declared.symbol.Symbol.{Symbol}
use Rattle.ts_automata.specs.declared.walk.Walk.{Walk}
use Rattle.ts_automata.specs.Automata.{IsAutomaton}
use Rattle.ts_automata.specs.Machine.{HasRead, state_count}
use Rattle.ts_automata.specs.Walks.{HasCome}
use Rattle.ts_lexer.specs.declared.ahead.LexTables.{LexTables}
use Rattle.ts_lexer.specs.declared.ahead.RowPair.{RowPair}
use Rattle.ts_lexer.specs.declared.view.View.{View}
use Rattle.ts_lexer.specs.declared.ways.LexNodes.{LexNodes}
use Rattle.ts_lexer.specs.declared.ways.Way.{Way}
use Rattle.ts_lexer.specs.declared.ways.Way.TheVariants.{Tables, Nodes}
use Rattle.ts_lexer.specs.Ahead.{HasPair, IsReady}
use Rattle.ts_lexer.specs.Rules.{IsRules}
use Rattle.ts_lexer.specs.Views.{IsView}

-- the tables were made for the grammar
pub record AreTablesOf (g : FlatGrammar) (t : LexTables) : Type 0 where
  pub rules : IsRules g t.rules
  pub automaton : IsAutomaton g t.machine.automaton

-- the nodes are the grammar's, and there is room for so many
pub record AreNodesOf (g : FlatGrammar) (n : LexNodes) (room : ℕ) : Type 0 where
  pub rules : IsRules g n.rules
  pub automaton : IsAutomaton g n.automaton
  pub size : room ≡ length n.automaton.nodes.items

-- the way was made for the grammar, with room for so many nodes
abbrev pub IsWayOf : FlatGrammar → Way → ℕ → Type 0
IsWayOf g (Tables t) room = AreTablesOf g t
IsWayOf g (Nodes n) room = AreNodesOf g n room

-- it has what the valid tokens make of sets, or else the marks are those of the tokens
abbrev pub IsReadyOn : FlatGrammar → List Symbol → Way → View → Option RowPair → Type 0
IsReadyOn g valid (Tables t) v p = IsReady g valid t v p
IsReadyOn g valid (Nodes n) v p = IsView g valid v

-- the same, and the way is the grammar's
pub record IsReadyFor (g : FlatGrammar) (valid : List Symbol) (way : Way) (v : View)
    (p : Option RowPair) (room : ℕ) : Type 0 where
  pub made : IsWayOf g way room
  pub ready : IsReadyOn g valid way v p

-- the rows of these two numbers, if it has rows, are the valid tokens'
abbrev pub HasPairOn : FlatGrammar → List Symbol → Way → RowPair → Type 0
HasPairOn g valid (Tables t) p = HasPair g valid t p
HasPairOn g valid (Nodes n) p = Unit {0}

-- where a list of tokens has rows, they are the list's
abbrev pub HavePairsOn : FlatGrammar → Way → List (List Symbol) → List (Option RowPair) → Type 0
HavePairsOn g way lists pairs =
    (k : ℕ) (valid : List Symbol) (p : RowPair) → slice_get lists k ≡ Some valid
    → slice_get pairs k ≡ Some (Some p) → HasPairOn g valid way p

-- the tables were made for the grammar, and the rows of these numbers are the valid tokens', if
-- there are tables and rows
abbrev pub HasRowsOn : FlatGrammar → List Symbol → Way → Option RowPair → Type 0
HasRowsOn g valid (Tables t) None = Unit {0}
HasRowsOn g valid (Tables t) (Some p) = AreTablesOf g t × HasPair g valid t p
HasRowsOn g valid (Nodes n) p = Unit {0}

-- the set is one of the tables'
abbrev pub IsSetOn : Way → ℕ → Type 0
IsSetOn (Tables t) set = set < state_count t.machine
IsSetOn (Nodes n) set = Unit {0}

-- the characters lead to the set, or to where the walk has come
abbrev pub LeadsOn : Way → Walk → ℕ → List ℕ → Type 0
LeadsOn (Tables t) walk = λ set w. HasRead t.machine w set
LeadsOn (Nodes n) walk = λ set w. HasCome n.automaton w walk
