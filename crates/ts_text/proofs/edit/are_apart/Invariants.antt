use Rattle.std.proofs.Common.{◌-◌, ◌≤◌, length}
use Rattle.ts_text.specs.Parts.{AreApartTo}
use Rattle.ts_text.proofs.edit.are_apart.Given as goal

abbrev pub invariant-loop-next : goal.invariant-loop-next
invariant-loop-next l = (1 ≤ l.next) × AreApartTo l.parts l.next

abbrev pub decreases-loop-next : goal.decreases-loop-next
decreases-loop-next l = length l.parts - l.next
