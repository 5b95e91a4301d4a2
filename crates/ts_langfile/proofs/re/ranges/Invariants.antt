use Rattle.std.proofs.Common.{◌≡◌, ◌-◌}
use Rattle.ts_langfile.specs.Reader.{in_turn}
use Rattle.ts_langfile.specs.Parts.{range_at, behind_range}
use Rattle.ts_langfile.proofs.LoopLemmas.{with_front}
use Rattle.ts_langfile.proofs.re.ranges.Given as goal

abbrev pub invariant-loop : goal.invariant-loop
invariant-loop l = with_front l.ranges (in_turn range_at behind_range (l.count - l.counter) l.least l.rest) ≡ in_turn range_at behind_range l.count l.initial.least l.initial.rest
