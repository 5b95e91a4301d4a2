use Rattle.std.proofs.Common.{◌≡◌, ◌-◌}
use Rattle.ts_langfile.specs.Reader.{times}
use Rattle.ts_langfile.specs.Parts.{symbol_at}
use Rattle.ts_langfile.proofs.LoopLemmas.{with_front}
use Rattle.ts_langfile.proofs.symbols.symbols.Given as goal

abbrev pub invariant-loop : goal.invariant-loop
invariant-loop l = with_front l.symbols (times (l.count - l.counter) (symbol_at l.least l.bound) l.rest) ≡ times l.count (symbol_at l.least l.bound) l.initial.rest
