use Rattle.std.proofs.Common.{◌≡◌, ◌+◌, drop}
use Rattle.ts_replay.specs.Runs.{weight_of, edits_on}
use Rattle.ts_replay.proofs.counting.edits_in.Given as goal

-- the edits so far and those of what is left are all
abbrev pub invariant-loop-step : goal.invariant-loop-step
invariant-loop-step l = l.edits + weight_of (edits_on l.document) (drop l.step-index l.steps) ≡ weight_of (edits_on l.document) l.steps
