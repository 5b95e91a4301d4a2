use Rattle.std.proofs.Common.{◌≡◌, ◌-◌, ◌+◌, ◌*◌}
use Rattle.ts_langfile.specs.Reader.{times}
use Rattle.ts_langfile.specs.Parts.{re_at}
use Rattle.ts_langfile.proofs.LoopLemmas.{with_front}
use Rattle.ts_langfile.proofs.re.+re.Given as goal

abbrev pub decreases-parts : goal.decreases-parts
decreases-parts l = 2 * l.room + 2

abbrev pub decreases-re : goal.decreases-re
decreases-re l = 2 * l.room + 1

abbrev pub decreases-repeat : goal.decreases-repeat
decreases-repeat l = 2 * l.room + 2

abbrev pub invariant-parts-loop : goal.invariant-parts-loop
invariant-parts-loop l = with_front l.parts (times (l.count - l.counter) (re_at l.room) l.rest) ≡ times l.count (re_at l.room) l.initial.rest
