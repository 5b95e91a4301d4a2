use Rattle.ts_lexer.proofs.MarkLemmas.{Cleared}
use Rattle.ts_lexer.proofs.marking.clear.Given as goal

abbrev pub invariant-loop-k : goal.invariant-loop-k
invariant-loop-k l = Cleared l.fn.marks.items l.marks.items l.k
