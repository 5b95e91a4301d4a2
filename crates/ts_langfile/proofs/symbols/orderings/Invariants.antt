use Rattle.std.proofs.Common.{◌≡◌, ◌-◌}
use Rattle.ts_langfile.specs.Reader.{times}
use Rattle.ts_langfile.specs.Parts.{listed_at, entry_at}
use Rattle.ts_langfile.proofs.LoopLemmas.{with_front}
use Rattle.ts_langfile.proofs.symbols.orderings.Given as goal

abbrev pub invariant-loop : goal.invariant-loop
invariant-loop l = with_front l.orderings (times (l.count - l.counter) (listed_at (entry_at l.bound l.names)) l.rest) ≡ times l.count (listed_at (entry_at l.bound l.names)) l.initial.rest
