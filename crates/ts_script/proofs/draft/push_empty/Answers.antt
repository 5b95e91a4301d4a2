use Rattle.std.proofs.Common.{◌∙◌, sym, ap, subst, List, [], ◌∷◌, ◌++◌}
use Rattle.ts_script.specs.declared.plan.ScriptStep.{ScriptStep}
use Rattle.ts_script.specs.Drafts.{Extends}
use Rattle.ts_script.proofs.DraftLemmas.{extends_more}
use Rattle.ts_script.proofs.draft.push_empty.Goals as goal

pub returns-clause-steps : goal.returns-clause-steps
returns-clause-steps c = λ old longer ext.
    subst (Extends old)
    (sym (c.in_ok-push.ensures.items ∙ ap (λ (x : List ScriptStep). c.args.clients.now.items ++ x ∷ []) c.new.ensures))
    (extends_more old c.args.clients.now.items longer ext)
