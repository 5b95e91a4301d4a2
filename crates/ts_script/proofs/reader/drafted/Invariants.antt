use Rattle.std.proofs.Common.{◌≤◌, ◌+◌, length}
use Rattle.ts_script.specs.Drafts.{Goes}
use Rattle.ts_script.proofs.reader.drafted.Given as goal

abbrev pub invariant-loop-rest : goal.invariant-loop-rest
invariant-loop-rest l =
    (l.number + length l.rest ≤ length l.bytes + 1)
    × Goes l.bytes l.rest l.number l.draft

abbrev pub decreases-loop-rest : goal.decreases-loop-rest
decreases-loop-rest l = length l.rest
