use Rattle.std.proofs.Common.{◌≡◌, ◌∙◌, sym, ap, subst, refl, ℕ, ◌+◌, ◌≤◌, List, [], ◌∷◌, ◌++◌, length, Some, string_bytes, slice_get, arith}
use Rattle.std.proofs.lemmas.Option.{slice_get_read}
use Rattle.std.proofs.lemmas.List.{length-append}
use Rattle.ts_io.specs.Outside.{Files}
use Rattle.ts_script.specs.declared.plan.Source.{Source}
use Rattle.ts_session.specs.Firsts.{IsLookedAt, AreFirsts}
use Rattle.ts_session.specs.declared.first.First.{First}
use Rattle.ts_session.specs.declared.first.Looked.{Looked}
use Rattle.ts_session.proofs.FirstLemmas.{is_missing, firsts_and}
use Rattle.ts_session.proofs.first.read_firsts.Goals as goal

pub returns-in-Ok-Missing-clause-looked : goal.returns-in-Ok-Missing-clause-looked
returns-in-Ok-Missing-clause-looked g c = λ files told.
    let inv = c.loop-source.invariant in
    let documents = c.args.documents.now in
    let i = c.loop-source.source-index in
    let at : slice_get documents i ≡ Some c.source-item.result = slice_get_read documents (length documents) i c.source-item.result refl c.loop-source-test.true c.source-item.is in
    let looked = c.in-Ok-Missing.ensures.looked files (inv.0 ∙ told) in
    is_missing files documents c.loop-source.firsts.items c.source-item.result i (string_bytes c.in-Ok-Missing.line) inv.2 at (inv.3 files told)
    (subst (IsLookedAt files c.source-item.result) c.in-Ok-Missing.field-0-is looked)

pub loop-source-preserved : goal.loop-source-preserved
loop-source-preserved g c =
    let inv = c.loop-source.invariant in
    let documents = c.args.documents.now in
    let i = c.loop-source.source-index in
    let at : slice_get documents i ≡ Some c.source-item.result = slice_get_read documents (length documents) i c.source-item.result refl c.loop-source-test.true c.source-item.is in
    let pushed : c.push.new.self.items ≡ c.loop-source.firsts.items ++ c.in-Ok-There.first ∷ [] = c.in_ok-push-in-Ok-There.ensures.items in
    let later = c.read_first.ensures.later in
    let before = inv.1 in
    let count = inv.2 in (
      c.read_first.ensures.files ∙ inv.0,
      omega (arith, later, before),
      ap length pushed ∙ length-append c.loop-source.firsts.items (c.in-Ok-There.first ∷ []) ∙ ap (λ (n : ℕ). n + 1) count,
      λ files told.
          let looked = c.in-Ok-There.ensures.looked files (inv.0 ∙ told) in
          subst (AreFirsts files documents) (sym pushed)
          (firsts_and files documents c.loop-source.firsts.items c.source-item.result c.in-Ok-There.first i inv.2 at (inv.3 files told) (subst (IsLookedAt files c.source-item.result) c.in-Ok-There.field-0-is looked)),
    )
