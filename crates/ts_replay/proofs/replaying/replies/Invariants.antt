use Rattle.std.proofs.Common.{◌≡◌}
use Rattle.ts_replay.specs.Running.{replies_of}
use Rattle.ts_replay.proofs.replaying.replies.Given as goal

abbrev pub invariant-loop-client : goal.invariant-loop-client
invariant-loop-client l = l.replies ≡ replies_of l.yielded
