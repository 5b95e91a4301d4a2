use Rattle.std.proofs.Common.{◌≡◌, length}
use Rattle.ts_lexer.proofs.marking.no_marks.Given as goal

abbrev pub invariant-loop-token : goal.invariant-loop-token
invariant-loop-token l = length l.marks.items ≡ l._token
