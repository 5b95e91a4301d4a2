-- The automaton of a grammar.
use Rattle.std.specs.Prelude.{List, map, ◌++◌}
use Rattle.ts_core.specs.declared.flat.FlatGrammar.{FlatGrammar}
use Rattle.spec_lexing.specs.Words.{Regular, regular_of}
use Rattle.ts_automata.specs.declared.automaton.Automaton.{Automaton}
use Rattle.ts_automata.specs.Parts.{AreParts, HaveParts}

-- the parts of an automaton: the tokens of the grammar, and then its separators
abbrev pub parts_of : FlatGrammar → List Regular
parts_of g = map (λ token. regular_of token.re) g.tokens ++ map regular_of g.separators

-- the automaton reads exactly the tokens and the separators of the grammar
abbrev pub IsAutomaton : FlatGrammar → Automaton → Type 0
IsAutomaton g a = AreParts a.nodes.items a.owners.items a.entries.items (parts_of g)

-- the automaton, which is being made, has these parts
abbrev pub Holds : Automaton → List Regular → Type 0
Holds a parts = HaveParts a.nodes.items a.owners.items a.entries.items parts

-- these parts were added at the end
abbrev pub Gains : Automaton → Automaton → List Regular → Type 0
Gains old new added = (parts : List Regular) → Holds old parts → Holds new (parts ++ added)
