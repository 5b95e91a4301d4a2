use Rattle.ts_lexer.specs.Ahead.{contents_of}
use Rattle.ts_lexer.proofs.StateLemmas.{Listing}
use Rattle.ts_lexer.proofs.states.lists_of.Given as goal

abbrev pub invariant-loop-state : goal.invariant-loop-state
invariant-loop-state l = Listing l.table (contents_of l.lists.keys) l.numbers.items l.state
