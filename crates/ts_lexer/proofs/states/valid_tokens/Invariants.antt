use Rattle.std.proofs.Common.{take}
use Rattle.ts_lexer.proofs.StateLemmas.{WithExtras}
use Rattle.ts_lexer.proofs.states.valid_tokens.Given as goal

abbrev pub invariant-loop-extra : goal.invariant-loop-extra
invariant-loop-extra l = WithExtras l.table l.state l.valid.items (take l.extra-index l.extras)
