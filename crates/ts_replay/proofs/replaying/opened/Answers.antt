use Rattle.std.proofs.Common.{◌∙◌, sym, subst, ℕ, List, [], ◌∷◌, ◌++◌}
use Rattle.ts_replay.specs.declared.document.Document.{Document}
use Rattle.ts_replay.specs.Running.{IsFresh, AreOpened}
use Rattle.ts_replay.proofs.StartLemmas.{opened_push}
use Rattle.ts_replay.proofs.replaying.opened.Goals as goal

pub loop-text-preserved : goal.loop-text-preserved
loop-text-preserved c = record {
  lexer = c.document.ensures.lexer;
  opened = subst (λ (l : List Document). AreOpened c.args.plan.now c.args.table.now (c.loop-text.yielded ++ c.in-Some.text ∷ []) l) (sym c.in_ok-push.ensures.items)
      (opened_push c.args.plan.now c.args.table.now c.loop-text.yielded c.in-Some.text c.loop-text.documents.items c.in_ok-document.field-0 c.loop-text.invariant.opened
      (subst (λ (n : ℕ). IsFresh c.args.plan.now c.args.table.now c.in-Some.text n c.in_ok-document.field-0) (c.len-number.ensures ∙ c.loop-text.documents.ok.0) c.in_ok-document.ensures.fresh));
}
