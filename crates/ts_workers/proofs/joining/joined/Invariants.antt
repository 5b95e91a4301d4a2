use Rattle.std.proofs.Common.{◌≡◌, ◌≤◌, length, vec_capacity}
use Rattle.ts_workers.specs.Joins.{HaveJoined}
use Rattle.ts_workers.specs.Workers.{all_passes, all_replies}
use Rattle.ts_workers.proofs.joining.joined.Given as goal

abbrev pub invariant-loop-worker : goal.invariant-loop-worker
invariant-loop-worker l = record {
  joined : HaveJoined (all_passes l.yielded) l.initial.fronts l.fronts;
  replies : l.replies.items ≡ all_replies l.yielded;
  room : length l.fn.workers.items ≤ vec_capacity l.replies;
}
