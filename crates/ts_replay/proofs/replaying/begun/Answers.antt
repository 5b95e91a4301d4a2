use Rattle.std.proofs.Common.{◌≡◌, ◌∙◌, sym, subst, ℕ, suc, ◌+◌, ◌<◌, List, [], ◌∷◌, ◌++◌, length, take, get_or, arith, rules}
use Rattle.std.proofs.Math.Seq.{take-suc}
use Rattle.ts_script.specs.declared.plan.ScriptStep.{ScriptStep}
use Rattle.ts_replay.specs.declared.document.Client.{Client}
use Rattle.ts_replay.specs.Running.{AreClientsBegun}
use Rattle.ts_replay.proofs.StartLemmas.{begun_push}
use Rattle.ts_replay.proofs.replaying.begun.Goals as goal

pub loop-steps-preserved : goal.loop-steps-preserved
loop-steps-preserved c =
    let there : c.loop-steps.steps-index < length c.args.all.now = search rules in
    let one : suc c.loop-steps.steps-index ≡ c.loop-steps.steps-index + 1 = omega arith in
    let items = c.in_ok-push.ensures.items in
    subst (λ (l : List Client). AreClientsBegun (take (c.loop-steps.steps-index + 1) c.args.all.now) c.args.documents.now l) (sym items)
    (subst (λ (n : ℕ). AreClientsBegun (take n c.args.all.now) c.args.documents.now (c.loop-steps.clients.items ++ c.in_ok-client.field-0 ∷ [])) one
    (subst (λ (l : List (List ScriptStep)). AreClientsBegun l c.args.documents.now (c.loop-steps.clients.items ++ c.in_ok-client.field-0 ∷ []))
    (sym (take-suc c.args.all.now c.loop-steps.steps-index c.steps-item.result there))
    (begun_push (take c.loop-steps.steps-index c.args.all.now) (get_or c.args.all.now c.loop-steps.steps-index c.steps-item.result) c.args.documents.now c.loop-steps.clients.items c.in_ok-client.field-0
    c.loop-steps.invariant (c.in_ok-client.ensures.steps ∙ c.as_slice.ensures ∙ c.steps-item.is) c.in_ok-client.ensures.replies c.in_ok-client.ensures.held)))
