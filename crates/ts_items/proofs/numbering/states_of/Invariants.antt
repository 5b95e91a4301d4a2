use Rattle.std.proofs.Common.{◌≡◌, length, ◌≤◌, ◌-◌, ◌^◌}
use Rattle.ts_items.specs.Sets.{AreWide}
use Rattle.ts_items.specs.Closing.{IsPool}
use Rattle.ts_items.specs.Collection.{most_states}
use Rattle.ts_items.specs.Numbers.{CollectedBy}
use Rattle.ts_items.proofs.numbering.states_of.Given as goal

abbrev pub invariant-loop-next : goal.invariant-loop-next
invariant-loop-next l = record {
  pool : IsPool l.tabled.tables.width l.pool.keys;
  few : length l.kernels.keys ≤ most_states;
  asked : (length l.asked ≡ length l.tabled.tables.firsts.items) × AreWide l.tabled.tables.width l.asked;
  size : length l.states.items ≡ l.next;
  inside : l.next ≤ length l.kernels.keys;
  collecting : CollectedBy l.tabled l.pool.keys l.kernels.keys l.states.items l.next;
}

abbrev pub decreases-loop-next : goal.decreases-loop-next
decreases-loop-next l = 2 ^ 64 - l.next
