use Rattle.std.proofs.Common.{◌≡◌, ◌∙◌, sym, ap, subst, refl, ℕ, ◌+◌, ◌≤◌, List, [], ◌∷◌, ◌++◌, length, Some, string_bytes, slice_get, arith}
use Rattle.std.proofs.lemmas.Option.{slice_get_read}
use Rattle.std.proofs.lemmas.List.{length-append}
use Rattle.ts_io.specs.Outside.{Files}
use Rattle.ts_session.specs.Firsts.{IsOpening}
use Rattle.ts_session.proofs.FirstLemmas.{AreTexts, is_refused, texts_and, are_opened}
use Rattle.ts_session.proofs.openings.openings_of.Goals as goal

pub returns-in-Refused-clause-openings : goal.returns-in-Refused-clause-openings
returns-in-Refused-clause-openings c = λ files are.
    let inv = c.loop-number.invariant in
    let documents = c.args.documents.now in
    let firsts = c.args.firsts.now in
    let i = c.loop-number.number in
    let inside = c.loop-number-test.true in
    let at : slice_get documents i ≡ Some c.index-documents-number.result = slice_get_read documents (length documents) i c.index-documents-number.result refl inside c.index-documents-number.is in
    let first : slice_get firsts i ≡ Some c.index-firsts-number.result = slice_get_read firsts (length firsts) i c.index-firsts-number.result refl (omega (arith, inside, c.requires)) c.index-firsts-number.is in
    let opening = c.in_ok-text.ensures files (are i c.index-documents-number.result c.index-firsts-number.result at first) in
    is_refused files documents c.loop-number.texts.items c.index-documents-number.result i (string_bytes c.in-Refused.line) inv.0 at (inv.1 files are)
    (subst (IsOpening files c.index-documents-number.result) c.in-Refused.is opening)

pub loop-number-preserved : goal.loop-number-preserved
loop-number-preserved c =
    let inv = c.loop-number.invariant in
    let documents = c.args.documents.now in
    let firsts = c.args.firsts.now in
    let i = c.loop-number.number in
    let inside = c.loop-number-test.true in
    let at : slice_get documents i ≡ Some c.index-documents-number.result = slice_get_read documents (length documents) i c.index-documents-number.result refl inside c.index-documents-number.is in
    let first : slice_get firsts i ≡ Some c.index-firsts-number.result = slice_get_read firsts (length firsts) i c.index-firsts-number.result refl (omega (arith, inside, c.requires)) c.index-firsts-number.is in
    let pushed : c.push.new.self.items ≡ c.loop-number.texts.items ++ c.in-Text.text ∷ [] = c.in_ok-push-in-Text.ensures.items in (
      ap length pushed ∙ length-append c.loop-number.texts.items (c.in-Text.text ∷ []) ∙ ap (λ (n : ℕ). n + 1) inv.0,
      λ files are.
          let opening = c.in_ok-text.ensures files (are i c.index-documents-number.result c.index-firsts-number.result at first) in
          subst (AreTexts files documents) (sym pushed)
          (texts_and files documents c.loop-number.texts.items c.index-documents-number.result c.in-Text.text i inv.0 at (inv.1 files are) (subst (IsOpening files c.index-documents-number.result) c.in-Text.is opening)),
    )

pub returns-clause-openings : goal.returns-clause-openings
returns-clause-openings c = λ files are.
    let inv = c.loop-number.invariant in
    let count = inv.0 in
    let past = c.loop-number-test.false in
    let most = c.loop-number.auto.number-end in
    are_opened files c.args.documents.now c.loop-number.texts.items (omega (arith, count, past, most)) (inv.1 files are)
