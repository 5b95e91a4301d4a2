use Rattle.std.proofs.Common.{◌≡◌, ◌+◌, [], drop}
use Rattle.ts_replay.specs.Runs.{weight_left, edits_on}
use Rattle.ts_replay.proofs.counting.edits_of.Given as goal

-- the edits so far and those of what is left are all
abbrev pub invariant-loop-steps : goal.invariant-loop-steps
invariant-loop-steps l =
    l.edits + weight_left (edits_on l.document) (drop l.steps-index l.steps-items) [] ≡ weight_left (edits_on l.document) l.steps-items []
