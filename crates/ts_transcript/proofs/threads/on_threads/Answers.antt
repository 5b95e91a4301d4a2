use Rattle.std.proofs.Common.{arith, ◌++◌, ℕ, List, length, refl, sym, subst}
use Rattle.std.specs.Global.{Vec}
use Rattle.rayon.proofs.ListFacts.{IfOk-then}
use Rattle.ts_base.specs.Bytes.{Bytes}
use Rattle.ts_transcript.specs.Batches.{AddsPieces, Begins}
use Rattle.ts_transcript.specs.Told.{AreLines}
use Rattle.ts_transcript.specs.declared.line.RunLine.{RunLine}
use Rattle.ts_transcript.proofs.BatchLemmas.{none_left, some_left, begins_empty, begins_more, begins_all}
use Rattle.ts_transcript.proofs.ColumnLemmas.{has_piece}
use Rattle.ts_transcript.proofs.threads.on_threads.Goals as goal

pub loop-rest-init : goal.loop-rest-init
loop-rest-init g c =
    let grammar = c.args.grammar.now in
    let lines = c.args.lines.now in
    let left = c.split_at.result.0.now ++ c.split_at.result.1.now in (
      subst (λ (bytes : Bytes). Begins grammar lines bytes left) (sym c.new.ensures.items) (begins_empty grammar lines left c.split_at.ensures.by_index.0),
      c.in_ok-all_columns.ensures,
    )

pub next_batch-requires-after_bounds : goal.next_batch-requires-after_bounds
next_batch-requires-after_bounds g c κs within = c.loop-rest.invariant.1

pub loop-rest-smaller : goal.loop-rest-smaller
loop-rest-smaller g c =
    let filled = some_left (length c.loop-rest.rest.now) c.is_empty.result c.loop-rest-test.true c.is_empty.ensures in
    let some = c.batch_len-in-loop-rest.ensures.some filled in
    let whole = c.split_at-in-loop-rest.ensures.back_len in
    omega (arith, some, whole)

pub loop-rest-preserved : goal.loop-rest-preserved
loop-rest-preserved g c =
    let grammar = c.args.grammar.now in
    let lines = c.args.lines.now in
    let bytes = c.in_ok-made.made.bytes.items in
    let made = c.in_ok-made.ensures in
    let more = begins_more grammar lines c.loop-rest.batch.now c.loop-rest.rest.now c.loop-rest.made.bytes.items bytes c.loop-rest.invariant.0 made.added in
    (subst (λ (left : List RunLine). Begins grammar lines bytes left) c.split_at-in-loop-rest.ensures.by_index.0 more, made.next)

pub added-requires : goal.added-requires
added-requires g c = has_piece c.args.grammar.now c.loop-rest.batch.now c.loop-rest.made.columns.items c.loop-rest.invariant.1

pub returns : goal.returns
returns g c =
    let grammar = c.args.grammar.now in
    let lines = c.args.lines.now in
    let rest = c.loop-rest.rest.now in
    let none = none_left rest c.is_empty.result c.loop-rest-test.false c.is_empty.ensures in
    let batch = c.loop-rest.batch.now in
    let before = c.loop-rest.made.bytes.items in
    IfOk-then c.added.result (λ (all : Vec ℕ). AddsPieces c.loop-rest.made.columns.items (length batch) before all.items) (λ all. AreLines grammar lines all.items) c.added.ensures
    (λ all adds.
    begins_all grammar lines rest all.items none
    (begins_more grammar lines batch rest before all.items c.loop-rest.invariant.0 (adds grammar batch refl c.loop-rest.invariant.1)))
