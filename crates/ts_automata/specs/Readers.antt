-- What reads the texts of an automaton.
use Rattle.std.specs.Prelude.{◌≡◌}
use Rattle.ts_automata.specs.declared.automaton.Automaton.{Automaton}
use Rattle.ts_automata.specs.declared.machine.Reader.{Reader}
use Rattle.ts_automata.specs.declared.machine.Reader.TheVariants.{Tables, Nodes}

-- it reads what the automaton reads: by the tables of a machine, or as it is
abbrev pub IsReader : Automaton → Reader → Type 0
IsReader a (Tables m) = m.automaton ≡ a
IsReader a (Nodes b) = b ≡ a
