use Rattle.std.proofs.Common.{◌≡◌, ◌-◌, length}
use Rattle.ts_langfile.specs.Reader.{times}
use Rattle.ts_langfile.specs.Parts.{production_at}
use Rattle.ts_langfile.proofs.LoopLemmas.{with_front}
use Rattle.ts_langfile.proofs.rule.productions.Given as goal

abbrev pub invariant-loop : goal.invariant-loop
invariant-loop l = (with_front l.productions (times (l.count - l.counter) (production_at l.symbols l.known) l.rest) ≡ times l.count (production_at l.symbols l.known) l.initial.rest) × (length l.productions ≡ l.counter)
