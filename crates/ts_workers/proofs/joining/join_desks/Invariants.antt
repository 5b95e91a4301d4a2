use Rattle.std.proofs.Common.{◌≡◌, length}
use Rattle.ts_workers.specs.Joins.{HaveJoinedDesks}
use Rattle.ts_workers.proofs.joining.join_desks.Given as goal

abbrev pub invariant-loop-desk : goal.invariant-loop-desk
invariant-loop-desk l = record {
  joined : HaveJoinedDesks l.initial.fronts l.fronts l.yielded;
  count : l.document ≡ length l.yielded;
}
