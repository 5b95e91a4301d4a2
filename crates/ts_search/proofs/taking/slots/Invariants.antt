use Rattle.std.proofs.Common.{take, ◌≡◌, map}
use Rattle.ts_search.specs.Ways.{slot_of}
use Rattle.ts_search.proofs.taking.slots.Given as goal

abbrev pub invariant-loop-item : goal.invariant-loop-item
invariant-loop-item l = l.all.items ≡ map slot_of (take l.item-index l.items)
