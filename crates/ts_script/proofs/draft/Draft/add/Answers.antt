use Rattle.std.proofs.Common.{◌≡◌, ◌∙◌, sym, subst, refl, ℕ, List, length, arith}
use Rattle.ts_script.specs.declared.plan.ScriptStep.{ScriptStep}
use Rattle.ts_script.specs.Drafts.{HaveSteps, with_step}
use Rattle.ts_script.specs.Rules.{steps_of}
use Rattle.ts_script.proofs.DraftLemmas.{stepped, none_past}
use Rattle.ts_script.proofs.draft.Draft.add.Goals as goal

pub returns : goal.returns
returns c = λ before document act is same.
    let count = is.clients in
    let have = c.in_ok-put.ensures.steps (λ (k : ℕ). steps_of k before)
    (c.in_ok-extend.ensures.steps (λ (k : ℕ). steps_of k before) is.of_each (λ k le. none_past before k (omega (arith, le, count)))) in
    stepped before c.args.client document act c.args.self.now _ is refl refl refl
    (c.in_ok-put.ensures.count ∙ c.in_ok-extend.ensures.count)
    (subst (λ (s : ScriptStep). HaveSteps (with_step c.args.client s (λ (k : ℕ). steps_of k before)) c.put.new.clients.items) same have)
