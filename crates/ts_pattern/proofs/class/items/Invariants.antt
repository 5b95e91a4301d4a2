use Rattle.std.proofs.Common.{◌≡◌, ◌-◌, ◌<◌, ◌≤◌, true, length}
use Rattle.ts_pattern.specs.Classes.{AreClassItems, opens_after}
use Rattle.ts_pattern.proofs.class.items.Given as goal

abbrev pub invariant-items : goal.invariant-items
invariant-items l = record {
  items : AreClassItems l.text true l.start l.items l.next;
  opens : l.opens ≡ opens_after true l.items;
  within : l.next ≤ length l.text;
  after : l.at < l.next;
}

abbrev pub decreases-items : goal.decreases-items
decreases-items l = length l.text - l.next
