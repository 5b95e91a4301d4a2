use Rattle.std.proofs.Common.{◌≤◌, arith, length}
use Rattle.ts_replay.specs.Runs.{weight_of, edits_on}
use Rattle.ts_replay.proofs.StartLemmas.{edit_weighs, edits_weigh}
use Rattle.ts_replay.proofs.counting.edits_in.Goals as goal

pub overflow_add-edits : goal.overflow_add-edits
overflow_add-edits c =
    let all : weight_of (edits_on c.args.document) c.args.steps.now ≤ length c.args.steps.now = edits_weigh c.args.document c.args.steps.now in
    let one : edits_on c.args.document c.step-item.result ≤ 1 = edit_weighs c.args.document c.step-item.result in
    let is = c.edit_of-edits.ensures in
    let sum = c.loop-step.invariant in
    let few = c.requires in
    omega (arith, all, one, is, sum, few)
