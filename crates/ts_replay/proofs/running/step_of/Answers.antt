use Rattle.std.proofs.Common.{◌≡◌, ◌∙◌, sym, ap, subst, refl, ℕ, ◌<◌, length, slice_get, set, Some, [], ◌∷◌, ◌++◌, true, false, Bool, Result, Ok, Err, is_ok, is_err, if◌then◌else◌, arith}
use Rattle.std.proofs.lemmas.Option.{slice_get_read, slice_get_within}
use Rattle.std.specs.Vec.{vec_len}
use Rattle.spec_history.specs.Replies.{document_of}
use Rattle.ts_replay.specs.Steps.{place, Does}
use Rattle.ts_replay.proofs.RunningLemmas.{same_thing}
use Rattle.ts_replay.proofs.running.step_of.Goals as goal

ok_of : {T E : Type 0} (r : Result T E) → is_err r ≡ false → is_ok r ≡ true
ok_of (Ok x) h = refl
ok_of (Err e) h = absurd (let f : true ≡ false = h in cc)

pub returns-clause-taken : goal.returns-clause-taken
returns-clause-taken g c =
    let may = c.requires.may in
    let count : vec_len c.args.client.now.replies ≡ length c.args.client.now.replies.items = c.args.client.now.replies.ok.0 in
    let len : c.len.result ≡ length c.args.client.now.replies.items = c.len.ensures ∙ count in
    let more : length c.args.client.now.replies.items < length c.args.client.now.steps.now = slice_get_within c.args.client.now.steps.now (length c.args.client.now.replies.items) may.step may.step_is in
    let at : slice_get c.args.client.now.steps.now (length c.args.client.now.replies.items) ≡ Some c.index-steps-len.result
    = subst (λ (n : ℕ). slice_get c.args.client.now.steps.now n ≡ Some c.index-steps-len.result) len
    (slice_get_read c.args.client.now.steps.now (length c.args.client.now.steps.now) c.len.result c.index-steps-len.result refl (omega (arith, len, more)) c.index-steps-len.is) in
    let same : may.step ≡ c.index-steps-len.result = same_thing may.step c.index-steps-len.result (sym may.step_is ∙ at) in
    let where_is : document_of may.step ≡ c.document_of-place.result = ap document_of same ∙ sym c.document_of-place.ensures in
    let in_documents : c.document_of-place.result < length c.args.documents.now.items
    = subst (λ (n : ℕ). n < length c.args.documents.now.items) where_is (slice_get_within c.args.documents.now.items (document_of may.step) may.document may.document_is) in
    let in_held : c.document_of-place.result < length c.args.client.now.held.items
    = subst (λ (n : ℕ). n < length c.args.client.now.held.items) where_is (slice_get_within c.args.client.now.held.items (document_of may.step) may.version may.version_is) in
    let ok : is_ok c.push.result ≡ true = ok_of c.push.result (sym c.is_err.ensures.value ∙ c.if-is_err.false) in
    record {
      step = c.index-steps-len.result;
      step_is = at;
      document = c.index_mut.result.now;
      document_is = subst (λ (n : ℕ). slice_get c.args.documents.now.items n ≡ Some c.index_mut.result.now) c.document_of-place.ensures
          (slice_get_read c.args.documents.now.items (length c.args.documents.now.items) c.document_of-place.result c.index_mut.result.now refl in_documents c.index_mut.ensures.value);
      version = c.index_mut-2.result.now;
      version_is = subst (λ (n : ℕ). slice_get c.args.client.now.held.items n ≡ Some c.index_mut-2.result.now) c.document_of-place.ensures
          (slice_get_read c.args.client.now.held.items (length c.args.client.now.held.items) c.document_of-place.result c.index_mut-2.result.now refl in_held c.index_mut-2.ensures.value);
      after = c.answer-reply.new.document;
      held = c.answer-reply.new.held;
      reply = c.answer-reply.result;
      does = subst (λ (n : ℕ). Does (g.F.Finder.finds c.args.finder.now) c.args.number n (place c.index_mut.result.now.turn c.index_mut.result.now.book c.index_mut-2.result.now) c.index-steps-len.result c.answer-reply.result
          (place c.answer-reply.new.document.turn c.answer-reply.new.document.book c.answer-reply.new.held)) (c.len-2.ensures ∙ count) c.answer-reply.ensures.does;
      documents_are = ap (λ (n : ℕ). set c.args.documents.now.items n c.answer-reply.new.document) c.document_of-place.ensures;
      held_are = ap (λ (n : ℕ). set c.args.client.now.held.items n c.answer-reply.new.held) c.document_of-place.ensures;
      replies_are = c.push.ensures.items ∙ ap (λ (b : Bool). if b then c.args.client.now.replies.items ++ c.answer-reply.result ∷ [] else c.args.client.now.replies.items) ok;
      steps_are = refl;
    }
