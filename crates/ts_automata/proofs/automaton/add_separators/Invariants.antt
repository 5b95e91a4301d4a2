use Rattle.std.proofs.Common.{map, take}
use Rattle.spec_lexing.specs.Words.{regular_of}
use Rattle.ts_automata.specs.Automata.{Gains}
use Rattle.ts_automata.proofs.automaton.add_separators.Given as goal

abbrev pub invariant-loop-separator : goal.invariant-loop-separator
invariant-loop-separator l = Gains l.fn.automaton l.automaton (map regular_of (take l.separator-index l.separators))
