use Rattle.std.proofs.Common.{map, take}
use Rattle.spec_lexing.specs.Words.{regular_of}
use Rattle.ts_automata.specs.Automata.{Gains}
use Rattle.ts_automata.proofs.automaton.add_tokens.Given as goal

abbrev pub invariant-loop-token : goal.invariant-loop-token
invariant-loop-token l = Gains l.fn.automaton l.automaton (map (λ token. regular_of token.re) (take l.token-index l.tokens))
