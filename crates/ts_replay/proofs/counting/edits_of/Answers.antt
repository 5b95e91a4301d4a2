use Rattle.std.proofs.Common.{◌≡◌, sym, ap, subst, refl, ◌+◌, ◌*◌, ◌≤◌, List, [], length, drop, slice_get, Some, arith}
use Rattle.std.proofs.lemmas.Option.{slice_get_read}
use Rattle.ts_script.specs.Rules.{most_script_steps}
use Rattle.ts_script.specs.declared.plan.ScriptStep.{ScriptStep}
use Rattle.ts_replay.specs.Runs.{weight_of, weight_left, edits_on}
use Rattle.ts_replay.proofs.StartLemmas.{edits_left, edits_weigh}
use Rattle.ts_replay.proofs.counting.edits_of.Goals as goal

pub overflow_add-edits : goal.overflow_add-edits
overflow_add-edits c =
    let sum : c.loop-steps.edits + weight_left (edits_on c.args.document) (drop c.loop-steps.steps-index c.as_slice-steps-items.result.now) [] ≡ weight_left (edits_on c.args.document) c.as_slice-steps-items.result.now [] = c.loop-steps.invariant in
    let total : weight_left (edits_on c.args.document) c.as_slice-steps-items.result.now [] ≤ 100000 * length c.args.plan.now.clients
    = subst (λ (l : List (List ScriptStep)). weight_left (edits_on c.args.document) l [] ≤ 100000 * length c.args.plan.now.clients) (sym c.as_slice-steps-items.ensures)
    (edits_left c.args.document c.args.plan.now.clients c.requires.few) in
    let at : slice_get c.args.plan.now.clients c.loop-steps.steps-index ≡ Some c.steps-item.result
    = subst (λ (l : List (List ScriptStep)). slice_get l c.loop-steps.steps-index ≡ Some c.steps-item.result) c.as_slice-steps-items.ensures
    (slice_get_read c.as_slice-steps-items.result.now (length c.as_slice-steps-items.result.now) c.loop-steps.steps-index c.steps-item.result refl c.loop-steps-test.true c.steps-item.is) in
    let short : length c.steps-item.result ≤ most_script_steps = c.requires.few c.loop-steps.steps-index c.steps-item.result at in
    let own : weight_of (edits_on c.args.document) c.as_slice.result.now ≤ length c.as_slice.result.now = edits_weigh c.args.document c.as_slice.result.now in
    let same : length c.as_slice.result.now ≡ length c.steps-item.result = ap length c.as_slice.ensures in
    let is = c.edits_in-edits.ensures in
    let few = c.requires.clients in
    omega (arith, sum, total, short, own, same, is, few)
