use Rattle.std.proofs.Common.{◌∙◌, sym, ap, inl, subst, ◌≡◌, ◌<◌, arith}
use Rattle.ts_base.specs.Bytes.{Bytes}
use Rattle.ts_io.specs.Outside.{Appends, AppendsPrefix}
use Rattle.spec_output.specs.Status.{number_of}
use Rattle.spec_output.specs.declared.status.Status.TheVariants.{Done, Grammar, Query, Script, Absent, Text}
use Rattle.ts_top.proofs.ProgramLemmas.{answer_writes, answer_queries, answer_exact, answer_complete, answer_compilable, answer_playable, answer_usage, answer_prefix, answer_whole, cut_low, cut_high, exact_or}
use Rattle.ts_top.proofs.HeadlineLemmas.{writes_lawful}
use Rattle.ts_top.proofs.program.run.Goals as goal

pub returns-in-Ok-put-clause-usage : goal.returns-in-Ok-put-clause-usage
returns-in-Ok-put-clause-usage g c = λ is.
    let u = answer_usage _ _ _ _ _ _ _ _ _ c.in-Ok.ensures.answers (sym c.number.ensures.number ∙ is) in
    (u.0, subst (λ (bytes : Bytes). Appends (g.S.Sink.taken c.args.sink.now) (g.S.Sink.taken c.put.new.sink) bytes) (c.as_slice.ensures.value ∙ u.1) c.in-Ok-put.ensures.ok)

pub returns-in-Ok-put-clause-done : goal.returns-in-Ok-put-clause-done
returns-in-Ok-put-clause-done g c = λ is.
    answer_writes _ _ _ _ _ _ _ _ Done _ _ _ _ c.number.ensures.number is (λ e. let never : ⊥ = cc in never) c.in-Ok.ensures.answers
    (subst (λ (bytes : Bytes). Appends (g.S.Sink.taken c.args.sink.now) (g.S.Sink.taken c.put.new.sink) bytes) c.as_slice.ensures.value c.in-Ok-put.ensures.ok)

pub returns-in-Ok-put-clause-headline : goal.returns-in-Ok-put-clause-headline
returns-in-Ok-put-clause-headline g c = λ is grammar script schedule asks.
    writes_lawful _ _ c.done_is_lawful.ensures _ _ grammar script schedule _ _ asks
    (answer_writes _ _ _ _ _ _ _ _ Done _ _ _ _ c.number.ensures.number is (λ e. let never : ⊥ = cc in never) c.in-Ok.ensures.answers
    (subst (λ (bytes : Bytes). Appends (g.S.Sink.taken c.args.sink.now) (g.S.Sink.taken c.put.new.sink) bytes) c.as_slice.ensures.value c.in-Ok-put.ensures.ok))

pub returns-in-Ok-put-clause-grammar : goal.returns-in-Ok-put-clause-grammar
returns-in-Ok-put-clause-grammar g c = λ is.
    answer_writes _ _ _ _ _ _ _ _ Grammar _ _ _ _ c.number.ensures.number is (λ e. let never : ⊥ = cc in never) c.in-Ok.ensures.answers
    (subst (λ (bytes : Bytes). Appends (g.S.Sink.taken c.args.sink.now) (g.S.Sink.taken c.put.new.sink) bytes) c.as_slice.ensures.value c.in-Ok-put.ensures.ok)

pub returns-in-Ok-put-clause-script : goal.returns-in-Ok-put-clause-script
returns-in-Ok-put-clause-script g c = λ is.
    answer_writes _ _ _ _ _ _ _ _ Script _ _ _ _ c.number.ensures.number is (λ e. let never : ⊥ = cc in never) c.in-Ok.ensures.answers
    (subst (λ (bytes : Bytes). Appends (g.S.Sink.taken c.args.sink.now) (g.S.Sink.taken c.put.new.sink) bytes) c.as_slice.ensures.value c.in-Ok-put.ensures.ok)

pub returns-in-Ok-put-clause-absent : goal.returns-in-Ok-put-clause-absent
returns-in-Ok-put-clause-absent g c = λ is.
    answer_writes _ _ _ _ _ _ _ _ Absent _ _ _ _ c.number.ensures.number is (λ e. let never : ⊥ = cc in never) c.in-Ok.ensures.answers
    (subst (λ (bytes : Bytes). Appends (g.S.Sink.taken c.args.sink.now) (g.S.Sink.taken c.put.new.sink) bytes) c.as_slice.ensures.value c.in-Ok-put.ensures.ok)

pub returns-in-Ok-put-clause-text : goal.returns-in-Ok-put-clause-text
returns-in-Ok-put-clause-text g c = λ is.
    answer_writes _ _ _ _ _ _ _ _ Text _ _ _ _ c.number.ensures.number is (λ e. let never : ⊥ = cc in never) c.in-Ok.ensures.answers
    (subst (λ (bytes : Bytes). Appends (g.S.Sink.taken c.args.sink.now) (g.S.Sink.taken c.put.new.sink) bytes) c.as_slice.ensures.value c.in-Ok-put.ensures.ok)

pub returns-in-Ok-put-clause-query : goal.returns-in-Ok-put-clause-query
returns-in-Ok-put-clause-query g c = λ is.
    answer_queries _ _ _ _ _ _ _ _ Query _ _ _ _ c.number.ensures.number is c.in-Ok.ensures.answers
    (subst (λ (bytes : Bytes). Appends (g.S.Sink.taken c.args.sink.now) (g.S.Sink.taken c.put.new.sink) bytes) c.as_slice.ensures.value c.in-Ok-put.ensures.ok)

pub returns-in-Ok-put-clause-nothing : goal.returns-in-Ok-put-clause-nothing
returns-in-Ok-put-clause-nothing g c = λ is.
    absurd (answer_whole _ _ _ _ _ _ _ _ _ _ c.number.ensures.number c.in-Ok.ensures.answers (cut_low c.number.result is) (cut_high c.number.result is))

pub returns-in-Ok-put-clause-told_prefix : goal.returns-in-Ok-put-clause-told_prefix
returns-in-Ok-put-clause-told_prefix g c = λ is.
    absurd (answer_whole _ _ _ _ _ _ _ _ _ _ c.number.ensures.number c.in-Ok.ensures.answers (let low : 1 < c.number.result = omega (arith, is) in low) (let high : c.number.result < 5 = omega (arith, is) in high))

pub returns-in-Ok-put-clause-exact : goal.returns-in-Ok-put-clause-exact
returns-in-Ok-put-clause-exact g c = λ files status bytes is answers.
    exact_or _ _ _ (answer_exact _ _ c.answers_once.ensures.status _ files _ _ _ _ _ status _ bytes _ is c.number.ensures.number c.in-Ok.ensures.answers answers)

pub returns-in-Ok-put-clause-complete : goal.returns-in-Ok-put-clause-complete
returns-in-Ok-put-clause-complete g c = λ files is clean read write.
    inl (c.number.ensures.number ∙ ap number_of (answer_complete _ _ c.clean_is_done.ensures.parsed _ files _ _ _ _ _ _ is clean c.in-Ok.ensures.answers))

pub returns-in-Ok-put-clause-playable : goal.returns-in-Ok-put-clause-playable
returns-in-Ok-put-clause-playable g c = λ files is can read write built.
    inl (c.number.ensures.number ∙ ap number_of (answer_playable _ _ c.clean_is_done.ensures.played _ files _ _ _ _ _ _ is can built c.in-Ok.ensures.answers))

pub returns-in-Ok-put-clause-compilable : goal.returns-in-Ok-put-clause-compilable
returns-in-Ok-put-clause-compilable g c = λ files is clean read write.
    inl (c.number.ensures.number ∙ ap number_of (answer_compilable _ _ c.clean_is_done.ensures.compiled _ files _ _ _ _ _ _ is clean c.in-Ok.ensures.answers))

pub returns-in-Ok-clause-told_prefix : goal.returns-in-Ok-clause-told_prefix
returns-in-Ok-clause-told_prefix g c = λ is.
    answer_prefix _ _ _ _ _ _ _ _ _ _ _ c.in-Ok.ensures.answers
    (subst (λ (bytes : Bytes). AppendsPrefix (g.S.Sink.taken c.args.sink.now) (g.S.Sink.taken c.put.new.sink) bytes) c.as_slice.ensures.value c.in-Err-Failed.ensures.prefix)
