use Rattle.std.proofs.Common.{◌≡◌, ◌-◌, length}
use Rattle.ts_langfile.specs.Reader.{times}
use Rattle.ts_langfile.specs.Parts.{token_at}
use Rattle.ts_langfile.proofs.LoopLemmas.{with_front}
use Rattle.ts_langfile.proofs.token.tokens.Given as goal

abbrev pub invariant-loop : goal.invariant-loop
invariant-loop l = (with_front l.tokens (times (l.count - l.counter) (token_at l.known) l.rest) ≡ times l.count (token_at l.known) l.initial.rest) × (length l.tokens ≡ l.counter)
